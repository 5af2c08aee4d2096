use Rattle.std.proofs.Common.{sym, ◌∙◌}
use Rattle.green_tree.specs.Tree.{at}
use Rattle.green_tree.specs.Green.{branch_tree}
use Rattle.cst_core.proofs.LastSlot.{parent_of-push}
use Rattle.green_tree.proofs.Lookup.{at_parent, node_is_not_token, node_is_not_none}
use Rattle.cst_core.proofs.location.Location.lent_parent.Goals as goal

pub unreachable-requires : goal.unreachable-requires
unreachable-requires c =
    let there = at_parent (branch_tree c.self.inside.root) c.in-Some.path.now c.in-Some.field-0-0.now (rw (← c.in-Some.ensures.cases.0, c.as_slice.ensures) c.self.invariant.there) in
    node_is_not_token (at (branch_tree c.self.inside.root) c.in-Some.path.now) _ _ there (rw c.in-Some-Token.field-0-is at c.in-Some-Token.ensures)

pub unreachable-requires-in-None : goal.unreachable-requires-in-None
unreachable-requires-in-None c =
    let there = at_parent (branch_tree c.self.inside.root) c.in-Some.path.now c.in-Some.field-0-0.now (rw (← c.in-Some.ensures.cases.0, c.as_slice.ensures) c.self.invariant.there) in
    node_is_not_none (at (branch_tree c.self.inside.root) c.in-Some.path.now) there c.in-None.ensures

pub returns : goal.returns
returns c =
    let h = parent_of-push c.args.self.now c.in-Some.path.now c.in-Some.field-0-0.now (rw (← c.self.view_is) (sym c.as_slice.ensures ∙ c.in-Some.ensures.cases.0)) in
    sym h
