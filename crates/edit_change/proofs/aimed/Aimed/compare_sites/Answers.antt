use Rattle.std.proofs.Common.{◌<◌, length, ap, sym, ◌∙◌, arith}
use Rattle.std.specs.Cmp.Lexicographic.{slice_cmp}
use Rattle.std.specs.Ordering.{nat_cmp, ordering_then}
use Rattle.std.proofs.lemmas.Option.{slice_get_within}
use Rattle.std.proofs.Common.{drop, ◌+◌}
use Rattle.edit_change.specs.inner.Aimed.{aim_in}
use Rattle.edit_change.specs.inner.DocumentOrder.{site}
use Rattle.edit_change.proofs.DocumentOrder.{ends-less, ends-equal, ends-greater, goes-on}
use Rattle.edit_change.proofs.aimed.Aimed.compare_sites.Goals as goal

pub returns-in-Some-key : goal.returns-in-Some-key
returns-in-Some-key c = sym (c.loop-one.invariant ∙ ends-less _ _ c.loop-one.depth _ c.in_default.ensures.key c.in-Some-key.ensures.key)

pub returns-in-None : goal.returns-in-None
returns-in-None c = sym (c.loop-one.invariant ∙ ends-equal _ _ c.loop-one.depth c.in_default.ensures.key c.in-None.ensures.key)

pub returns-in_default-key : goal.returns-in_default-key
returns-in_default-key c = sym (c.loop-one.invariant ∙ ends-greater _ _ c.loop-one.depth _ c.in-Some.ensures.key c.in_default-key.ensures.key)

pub returns-in-Less : goal.returns-in-Less
returns-in-Less c =
    let d = c.loop-one.depth in
    let rest = slice_cmp nat_cmp (drop (d + 1) (site (aim_in c.args.self.now.path.now c.args.self.now.form))) (drop (d + 1) (site (aim_in c.args.other.now.path.now c.args.other.now.form))) in
    sym (c.loop-one.invariant ∙ goes-on _ _ d _ _ c.in-Some.ensures.key c.in-Some-key-2.ensures.key ∙ ap (λ o. ordering_then o rest) (sym c.cmp.ensures ∙ c.in-Less.is))

pub returns-in-Greater : goal.returns-in-Greater
returns-in-Greater c =
    let d = c.loop-one.depth in
    let rest = slice_cmp nat_cmp (drop (d + 1) (site (aim_in c.args.self.now.path.now c.args.self.now.form))) (drop (d + 1) (site (aim_in c.args.other.now.path.now c.args.other.now.form))) in
    sym (c.loop-one.invariant ∙ goes-on _ _ d _ _ c.in-Some.ensures.key c.in-Some-key-2.ensures.key ∙ ap (λ o. ordering_then o rest) (sym c.cmp.ensures ∙ c.in-Greater.is))

pub loop-one-smaller : goal.loop-one-smaller
loop-one-smaller c =
    let xs = site (aim_in c.args.self.now.path.now c.args.self.now.form) in
    let l : c.loop-one.depth < length xs = slice_get_within xs c.loop-one.depth _ (sym c.in-Some.ensures.key) in
    omega (arith, l)

pub loop-one-preserved : goal.loop-one-preserved
loop-one-preserved c =
    let d = c.loop-one.depth in
    let rest = slice_cmp nat_cmp (drop (d + 1) (site (aim_in c.args.self.now.path.now c.args.self.now.form))) (drop (d + 1) (site (aim_in c.args.other.now.path.now c.args.other.now.form))) in
    c.loop-one.invariant ∙ goes-on _ _ d _ _ c.in-Some.ensures.key c.in-Some-key-2.ensures.key ∙ ap (λ o. ordering_then o rest) (sym c.cmp.ensures ∙ c.in-Equal.is)
