use Rattle.std.proofs.Common.{◌≡◌, ◌<◌, ℕ, None, length, take, sym, ◌∙◌, arith}
use Rattle.std.proofs.lemmas.List.{length-take-le}
use Rattle.cst_core.specs.Element.{address, element_at}
use Rattle.edit_map.specs.inner.Climbing.{at_depth, HasNoCopy}
use Rattle.edit_map.specs.Mapping.{copy}
use Rattle.edit_map.proofs.Numbered.{unnumbered}
use Rattle.edit_map.proofs.Upwards.{nearest-found, passed-to, passed-all, passed-itself, passed-on}
use Rattle.edit_map.proofs.mapping.SyntaxMapping.nearest_copy.Goals as goal

pub up-init : goal.up-init
up-init c = passed-itself c.args.self.now c.args.node

pub returns-in-Some-clause-nearest : goal.returns-in-Some-clause-nearest
returns-in-Some-clause-nearest c = λ e number.
    let before = c.up.invariant in
    before.same e number ∙ nearest-found c.args.self.now c.up.here e (number ∙ sym before.number) c.in-Some.copy.now c.slots.result.now c.slots.ensures c.in-Some.ensures

pub returns-in_default-stop_above-clause-nearest : goal.returns-in_default-stop_above-clause-nearest
returns-in_default-stop_above-clause-nearest c = λ e number.
    let before = c.up.invariant in
    let here : None ≡ copy c.args.self.now (address c.up.here) = c.in_default.ensures in
    let none = rw c.in_default-stop_above.is at c.stop_above.ensures in
    let free : (k : ℕ) → k < length c.up.here.path → HasNoCopy c.args.self.now (at_depth (address c.up.here) k) =
    λ k less. rw (← c.self.view_is) (unnumbered c.self.inside.pairs.items c.self.inside.numbers c.self.invariant.numbered _ (none k less).0) in
    before.same e number ∙ passed-all c.args.self.now c.up.here here free e (number ∙ sym before.number)

pub node_above-requires : goal.node_above-requires
node_above-requires c =
    let told = rw c.in-Some-stop_above.is at c.stop_above.ensures in
    omega (arith, told.0)

pub up-smaller : goal.up-smaller
up-smaller c =
    let told = rw c.in-Some-stop_above.is at c.stop_above.ensures in
    rw c.in_ok-here.ensures (omega (arith, told.0, length-take-le c.in-Some-stop_above.depth c.up.here.path (omega (arith, told.0))))

pub up-preserved : goal.up-preserved
up-preserved c =
    let here : None ≡ copy c.args.self.now (address c.up.here) = c.in_default.ensures in
    let told = rw c.in-Some-stop_above.is at c.stop_above.ensures in
    let free : (k : ℕ) → c.in-Some-stop_above.depth < k → k < length c.up.here.path → HasNoCopy c.args.self.now (at_depth (address c.up.here) k) =
    λ k more less. rw (← c.self.view_is) (unnumbered c.self.inside.pairs.items c.self.inside.numbers c.self.invariant.numbered _ (told.1 k more less).0) in
    let further = passed-to c.args.self.now c.up.here here c.in-Some-stop_above.depth told.0 free in
    rw c.in_ok-here.ensures (passed-on c.args.self.now c.args.node c.up.here (element_at c.up.here (take c.in-Some-stop_above.depth c.up.here.path)) c.up.invariant further)
