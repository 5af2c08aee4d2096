use Rattle.std.proofs.Common.{◌≡◌, ◌<◌, Some, ap, sym, ◌∙◌, arith, length}
use Rattle.green_tree.specs.Tree.{at, children}
use Rattle.green_tree.specs.Green.{branch_tree}
use Rattle.cst_core.specs.Element.{subtree}
use Rattle.cst_core.specs.inner.ChildSlots.{child_in}
use Rattle.cst_core.proofs.Children.{first_children, child_there, one_more_child, no_more_child}
use Rattle.cst_core.proofs.node.SyntaxNode.children_with_tokens.Goals as goal
use Rattle.cst_core.proofs.node.SyntaxNode.children_with_tokens.Goals.{in-Some+in_ok-push, in_default}

pub loop-slot-preserved : goal.loop-slot-preserved
loop-slot-preserved c =
    let stands : at c.args.self.now.root c.args.self.now.path ≡ Some (branch_tree c.self.inside.green) = rw (← c.self.view_is) c.self.invariant.there in
    let inside : c.loop-slot.slot < length (children (subtree c.args.self.now)) = rw (← c.lent-node.ensures) (omega (arith, c.len-slot-end.ensures, c.loop-slot-test.true)) in
    let there = child_there c.args.self.now (branch_tree c.self.inside.green) c.loop-slot.slot stands inside in
    let found : child_in c.args.self.now c.loop-slot.slot ≡ c.in_ok-child.field-0 = rw (← c.lent-node.ensures) (sym c.in_ok-child.ensures.ok) in
    elim c.match-branch-3.branch [
      | in-Some+in_ok-push w ↦
          rw (w.all-is, w.in_ok-push.ensures.items, c.loop-slot.invariant) (one_more_child c.args.self.now c.loop-slot.slot w.in-Some.child (sym w.in-Some.is ∙ sym found ∙ there))
      | in_default w ↦ absurd (no_more_child c.args.self.now c.loop-slot.slot (sym w.in_default.is ∙ sym found ∙ there))
    ]

pub returns : goal.returns
returns c =
    let all : c.loop-slot.slot ≡ length (children (subtree c.args.self.now)) = rw (← c.lent-node.ensures) (omega (arith, c.len-slot-end.ensures, c.loop-slot-test.false, c.loop-slot.auto.slot-end)) in
    c.loop-slot.invariant ∙ ap (first_children c.args.self.now) all
