use Rattle.std.proofs.Common.{◌≡◌, ◌<◌, Some, take, length, sym, subst, ◌∙◌, ap, arith}
use Rattle.std.specs.Prelude.{IfOk}
use Rattle.std.proofs.lemmas.List.{take_all}
use Rattle.std.proofs.lemmas.Option.{none-some}
use Rattle.cst_core.specs.Element.{element_at}
use Rattle.cst_core.specs.declared.element.SyntaxElement.TheVariants as variants
use Rattle.edit_map.proofs.Passing.{node-above, no-token}
use Rattle.edit_map.proofs.stops.node_above.Goals as goal

pub returns-then-depth-slots : goal.returns-then-depth-slots
returns-then-depth-slots c =
    let e = c.args.node.now in
    let whole : take c.args.depth e.path ≡ e.path = take_all c.args.depth e.path (omega (arith, ap length c.slots.ensures, c.if-depth-slots.true)) in
    subst (λ p. IfOk c.try_clone.result (λ n. n ≡ element_at e p)) (sym whole) c.try_clone.ensures

pub unreachable-requires : goal.unreachable-requires
unreachable-requires c =
    let below : c.args.depth < length c.args.node.now.path = omega (arith, ap length c.slots.ensures, c.if-depth-slots.false, c.requires) in
    let node : c.in_ok-above.field-0 ≡ Some (variants.Node (element_at c.args.node.now (take c.args.depth c.args.node.now.path))) = c.in_ok-above.ensures.ok ∙ rw (c.in_ok-top.ensures, c.slots-2.ensures) (node-above c.args.node.now c.args.depth below c.kind.ensures.form) in
    no-token c.in-Some-Token.field-0-0 (element_at c.args.node.now (take c.args.depth c.args.node.now.path)) (ap (λ e. Some e) (sym c.in-Some-Token.field-0-is) ∙ sym c.in-Some-Token.is ∙ node)

pub unreachable-requires-in-None : goal.unreachable-requires-in-None
unreachable-requires-in-None c =
    let below : c.args.depth < length c.args.node.now.path = omega (arith, ap length c.slots.ensures, c.if-depth-slots.false, c.requires) in
    let node : c.in_ok-above.field-0 ≡ Some (variants.Node (element_at c.args.node.now (take c.args.depth c.args.node.now.path))) = c.in_ok-above.ensures.ok ∙ rw (c.in_ok-top.ensures, c.slots-2.ensures) (node-above c.args.node.now c.args.depth below c.kind.ensures.form) in
    none-some (variants.Node (element_at c.args.node.now (take c.args.depth c.args.node.now.path))) (sym c.in-None.is ∙ node)
