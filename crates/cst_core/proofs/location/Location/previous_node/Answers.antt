use Rattle.std.proofs.Common.{◌≡◌, sym, ◌∙◌, subst, arith}
use Rattle.std.specs.Result.{IfOk}
use Rattle.cst_core.specs.Element.{IsElement}
use Rattle.cst_core.proofs.ChildSlots.{slot_is_inside}
use Rattle.cst_core.proofs.Families.{previous_node-child, previous_node-root}
use Rattle.cst_core.proofs.location.Location.previous_node.Goals as goal

pub last_node_before-requires : goal.last_node_before-requires
last_node_before-requires c =
    let there : IsElement c.args.self.now = rw (← c.self.view_is) c.self.invariant.there in
    let inside = slot_is_inside c.args.self.now c.in-Some.parent there (sym c.lent_parent.ensures ∙ c.in-Some.is) in
    omega (arith, inside, c.index.ensures)

pub returns-in-Some-clause-ok : goal.returns-in-Some-clause-ok
returns-in-Some-clause-ok c =
    subst (λ x. IfOk c.last_node_before.result (λ r. r ≡ x)) (previous_node-child c.args.self.now c.in-Some.parent c.index.result (sym c.lent_parent.ensures ∙ c.in-Some.is) c.index.ensures) c.last_node_before.ensures.ok

pub returns-in-Some-clause-none : goal.returns-in-Some-clause-none
returns-in-Some-clause-none c nothing =
    c.last_node_before.ensures.none (previous_node-child c.args.self.now c.in-Some.parent c.index.result (sym c.lent_parent.ensures ∙ c.in-Some.is) c.index.ensures ∙ nothing)

pub returns-in-None-clause-ok : goal.returns-in-None-clause-ok
returns-in-None-clause-ok c = sym (previous_node-root c.args.self.now (sym c.lent_parent.ensures ∙ c.in-None.is))
