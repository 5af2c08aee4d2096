use Rattle.std.proofs.Common.{◌≡◌, ◌+◌, ◌≤◌, Ok, Some, length, ap, sym, ◌∙◌, arith}
use Rattle.green_tree.specs.Path.{first_item}
use Rattle.green_tree.specs.Tree.{at, children}
use Rattle.green_tree.specs.Green.{branch_tree}
use Rattle.green_tree.proofs.FoundTokens.{err_is_not_ok, ok_some_is_not_none}
use Rattle.cst_core.specs.Element.{subtree}
use Rattle.cst_core.proofs.ChildSlots.{first_node_found, first_node_passed, first_node_none, nodes_from_slot-end}
use Rattle.cst_core.proofs.lent_node.LentNode.first_node_from.Goals as goal

pub returns-in-Some-clause-ok : goal.returns-in-Some-clause-ok
returns-in-Some-clause-ok c =
    let stands : at c.args.self.now.root c.args.self.now.path ≡ Some (branch_tree c.self.inside.green.now) = rw (← c.self.view_is) c.self.invariant.there in
    let found = first_node_found c.args.self.now (branch_tree c.self.inside.green.now) c.loop-slot.slot c.in-Some.node stands (omega arith) (sym c.in_ok-node.ensures.ok ∙ c.in-Some.is) in
    sym (ap first_item c.loop-slot.invariant ∙ found)

pub loop-slot-preserved : goal.loop-slot-preserved
loop-slot-preserved c =
    let stands : at c.args.self.now.root c.args.self.now.path ≡ Some (branch_tree c.self.inside.green.now) = rw (← c.self.view_is) c.self.invariant.there in
    c.loop-slot.invariant ∙ first_node_passed c.args.self.now (branch_tree c.self.inside.green.now) c.loop-slot.slot (c.loop-slot.slot + 1) stands (omega arith) (omega arith) (sym c.in_ok-node.ensures.ok ∙ c.in_default.is)

pub returns-clause-ok : goal.returns-clause-ok
returns-clause-ok c =
    let past : length (children (subtree c.args.self.now)) ≤ c.loop-slot.slot = omega arith in
    sym (ap first_item (c.loop-slot.invariant ∙ nodes_from_slot-end c.args.self.now c.loop-slot.slot past))

pub returns-in_err-node-clause-none : goal.returns-in_err-node-clause-none
returns-in_err-node-clause-none c nothing =
    let stands : at c.args.self.now.root c.args.self.now.path ≡ Some (branch_tree c.self.inside.green.now) = rw (← c.self.view_is) c.self.invariant.there in
    absurd (err_is_not_ok (c.in_err-node.ensures.none (first_node_none c.args.self.now (branch_tree c.self.inside.green.now) c.loop-slot.slot stands (omega arith) (ap first_item (sym c.loop-slot.invariant) ∙ nothing))))

pub returns-in-Some-clause-none : goal.returns-in-Some-clause-none
returns-in-Some-clause-none c nothing =
    let stands : at c.args.self.now.root c.args.self.now.path ≡ Some (branch_tree c.self.inside.green.now) = rw (← c.self.view_is) c.self.invariant.there in
    let none = c.in_ok-node.ensures.none (first_node_none c.args.self.now (branch_tree c.self.inside.green.now) c.loop-slot.slot stands (omega arith) (ap first_item (sym c.loop-slot.invariant) ∙ nothing)) in
    absurd (ok_some_is_not_none (ap Ok c.in-Some.is) none)
