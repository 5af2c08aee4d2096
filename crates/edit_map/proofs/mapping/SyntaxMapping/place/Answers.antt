use Rattle.std.proofs.Common.{Bor, ◌≡◌, ◌<◌, ℕ, length, take, sym, ap, ◌∙◌, arith}
use Rattle.std.proofs.lemmas.List.{length-take-le, take_rest}
use Rattle.cst_core.specs.Element.{Element, address}
use Rattle.edit_map.specs.Mapping.{IsRising, copied}
use Rattle.edit_map.specs.inner.Climbing.{Passes, HasNoCopy}
use Rattle.edit_map.proofs.Making.{pairs-rise}
use Rattle.edit_map.proofs.Numbered.{unnumbered}
use Rattle.edit_map.proofs.Climbs.{copied-or, met, not-met, climbed-start, climbed-to, climbed-past, climbed-there, way-falls}
use Rattle.edit_map.proofs.mapping.SyntaxMapping.place.Goals as goal

pub up-init : goal.up-init
up-init c =
    rw (c.new-slots.ensures.items, c.in_ok-node.ensures) (climbed-start c.args.self.now (address c.args.payload.now) (address c.args.target.now))

pub up-smaller : goal.up-smaller
up-smaller c =
    let copy = c.unwrap_or-copy.result.now in
    let copied_is : address copy ≡ copied c.args.self.now (address c.up.node) = copied-or (λ (b : Bor _). b.now) c.args.self.now c.copy_of.result _ c.unwrap_or-copy.result c.unwrap_or-copy.ensures c.copy_of.ensures in
    let rising : IsRising c.args.self.now = rw (← c.self.view_is) (pairs-rise c.self.inside.pairs.items c.self.invariant.mapping.pairs) in
    let stop = rw c.in-Some.is at c.stop_above.ensures in
    let short : length (take c.in-Some.depth copy.path) < length copy.path = omega (arith, stop.0, length-take-le c.in-Some.depth copy.path (omega (arith, stop.0))) in
    way-falls c.args.self.now rising (address c.up.node) (address c.in_ok-node-2.node) (ap (λ a. a.number) (sym copied_is) ∙ ap (λ (e : Element). e.number) (sym c.in_ok-node-2.ensures)) (rw (c.in_ok-node-2.ensures, ← copied_is) short)

pub up-preserved : goal.up-preserved
up-preserved c =
    let copy = c.unwrap_or-copy.result.now in
    let copied_is : address copy ≡ copied c.args.self.now (address c.up.node) = copied-or (λ (b : Bor _). b.now) c.args.self.now c.copy_of.result _ c.unwrap_or-copy.result c.unwrap_or-copy.ensures c.copy_of.ensures in
    let stop = rw c.in-Some.is at c.stop_above.ensures in
    let passes : (k : ℕ) → c.in-Some.depth < k → k < length copy.path → Passes (HasNoCopy c.args.self.now) (address c.args.payload.now) (address copy) k =
    λ k more below. let passed = stop.1 k more below in (rw (← c.self.view_is) (unnumbered c.self.inside.pairs.items c.self.inside.numbers c.self.invariant.numbered _ passed.0), passed.1) in
    rw (c.in_ok-push_reversed.ensures, c.slots.ensures, take_rest copy.path c.in-Some.depth, c.in_ok-node-2.ensures) (climbed-to c.args.self.now (address c.args.payload.now) (address c.args.target.now) c.up.slots.items (address c.up.node) (address copy) c.up.invariant (not-met c.up.node c.args.payload.now (sym c.ne.ensures ∙ c.up-test.true)) (sym copied_is) c.in-Some.depth stop.0 passes)

pub returns-in_default-clause-place : goal.returns-in_default-clause-place
returns-in_default-clause-place c =
    let copy = c.unwrap_or-copy.result.now in
    let copied_is : address copy ≡ copied c.args.self.now (address c.up.node) = copied-or (λ (b : Bor _). b.now) c.args.self.now c.copy_of.result _ c.unwrap_or-copy.result c.unwrap_or-copy.ensures c.copy_of.ensures in
    let none = rw c.in_default.is at c.stop_above.ensures in
    let passes : (k : ℕ) → k < length copy.path → Passes (HasNoCopy c.args.self.now) (address c.args.payload.now) (address copy) k =
    λ k below. let passed = none k below in (rw (← c.self.view_is) (unnumbered c.self.inside.pairs.items c.self.inside.numbers c.self.invariant.numbered _ passed.0), passed.1) in
    climbed-past c.args.self.now (address c.args.payload.now) (address c.args.target.now) c.up.slots.items (address c.up.node) (address copy) c.up.invariant (not-met c.up.node c.args.payload.now (sym c.ne.ensures ∙ c.up-test.true)) (sym copied_is) passes

pub returns-clause-place : goal.returns-clause-place
returns-clause-place c =
    rw c.reverse.ensures.items (climbed-there c.args.self.now (address c.args.payload.now) (address c.args.target.now) c.up.slots.items (address c.up.node) c.up.invariant (met c.up.node c.args.payload.now (sym c.ne.ensures ∙ c.up-test.false)))
