use Rattle.std.proofs.Common.{◌≡◌, ◌+◌, ◌<◌, Some, suc, sym, ◌∙◌, arith, length}
use Rattle.green_tree.specs.Tree.{at, children}
use Rattle.green_tree.specs.Green.{branch_tree}
use Rattle.cst_core.specs.Element.{subtree}
use Rattle.cst_core.specs.inner.ChildSlots.{node_in}
use Rattle.cst_core.proofs.ChildSlots.{nodes_up_to-more, nodes_up_to-all, last_node_passed}
use Rattle.cst_core.proofs.node.SyntaxNode.children.Goals as goal
use Rattle.cst_core.proofs.node.SyntaxNode.children.Goals.{in-Some+in_ok-push, in_default}

pub loop-slot-preserved : goal.loop-slot-preserved
loop-slot-preserved c =
    let stands : at c.args.self.now.root c.args.self.now.path ≡ Some (branch_tree c.self.inside.green) = rw (← c.self.view_is) c.self.invariant.there in
    let inside : c.loop-slot.slot < length (children (subtree c.args.self.now)) = rw (← c.lent-node.ensures) (omega (arith, c.len-slot-end.ensures, c.loop-slot-test.true)) in
    let next : c.loop-slot.slot + 1 ≡ suc c.loop-slot.slot = omega arith in
    let found : node_in c.args.self.now c.loop-slot.slot ≡ c.in_ok-child.field-0 = rw (← c.lent-node.ensures) (sym c.in_ok-child.ensures.ok) in
    elim c.match-branch-2.branch [
      | in-Some+in_ok-push w ↦ rw (w.all-is, w.in_ok-push.ensures.items, c.loop-slot.invariant) (sym (nodes_up_to-more c.args.self.now (branch_tree c.self.inside.green) c.loop-slot.slot (c.loop-slot.slot + 1) w.in-Some.child stands inside next (found ∙ w.in-Some.is)))
      | in_default w ↦ rw (w.all-is, c.loop-slot.invariant) (sym (last_node_passed c.args.self.now (branch_tree c.self.inside.green) c.loop-slot.slot (c.loop-slot.slot + 1) stands inside next (found ∙ w.in_default.is)))
    ]

pub returns : goal.returns
returns c =
    let all : c.loop-slot.slot ≡ length (children (subtree c.args.self.now)) = rw (← c.lent-node.ensures) (omega (arith, c.len-slot-end.ensures, c.loop-slot-test.false, c.loop-slot.auto.slot-end)) in
    c.loop-slot.invariant ∙ nodes_up_to-all c.args.self.now c.loop-slot.slot all
