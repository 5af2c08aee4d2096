use Rattle.std.proofs.Common.{◌≡◌, ◌-◌, ◌<◌, ◌++◌, suc, length, take, Some, ap, sym, ◌∙◌, arith}
use Rattle.std.specs.Prelude.{reverse}
use Rattle.std.proofs.lemmas.List.{append-nil}
use Rattle.green_tree.specs.Tree.{at, children}
use Rattle.green_tree.specs.Green.{branch_tree}
use Rattle.cst_core.specs.Element.{subtree}
use Rattle.cst_core.specs.SyntaxElement.{child_elements}
use Rattle.cst_core.proofs.ChildSlots.{children_pushed, take_all_children, child_not_none}
use Rattle.cst_core.proofs.lent_node.LentNode.push_children.Goals as goal

pub loop-slot-init : goal.loop-slot-init
loop-slot-init c = record {
  within = omega (arith, c.len-slot.ensures);
  same = ap (λ es. c.args.list.now.items ++ reverse es) (take_all_children c.args.self.now c.len-slot.result c.len-slot.ensures);
}

pub loop-slot-preserved : goal.loop-slot-preserved
loop-slot-preserved c =
    let stands : at c.args.self.now.root c.args.self.now.path ≡ Some (branch_tree c.self.inside.green.now) = rw (← c.self.view_is) c.self.invariant.there in
    let inside : c.loop-slot.slot - 1 < length (children (subtree c.args.self.now)) = omega (arith, c.loop-slot.invariant.within, c.loop-slot-test.true) in
    absurd (child_not_none c.args.self.now (branch_tree c.self.inside.green.now) (c.loop-slot.slot - 1) stands inside (sym c.in_ok-child.ensures.ok ∙ c.in_default.is))

pub loop-slot-preserved-in-Continue-branch-3 : goal.loop-slot-preserved-in-Continue-branch-3
loop-slot-preserved-in-Continue-branch-3 c =
    let stands : at c.args.self.now.root c.args.self.now.path ≡ Some (branch_tree c.self.inside.green.now) = rw (← c.self.view_is) c.self.invariant.there in
    let inside : c.loop-slot.slot - 1 < length (children (subtree c.args.self.now)) = omega (arith, c.loop-slot.invariant.within, c.loop-slot-test.true) in
    let next : c.loop-slot.slot ≡ suc (c.loop-slot.slot - 1) = omega (arith, c.loop-slot-test.true) in
    let pushed = children_pushed c.args.self.now (branch_tree c.self.inside.green.now) (c.loop-slot.slot - 1) c.loop-slot.slot c.in-Some.child c.loop-slot.list.items stands inside next (sym c.in_ok-child.ensures.ok ∙ c.in-Some.is) in
    record {
      within = omega (arith, c.loop-slot.invariant.within);
      same = rw c.in_ok-push.ensures.items (pushed ∙ c.loop-slot.invariant.same);
    }

pub returns : goal.returns
returns c =
    let none : c.loop-slot.slot ≡ 0 = omega (arith, c.loop-slot-test.false) in
    sym (append-nil c.loop-slot.list.items) ∙ (ap (λ i. c.loop-slot.list.items ++ reverse (take i (child_elements c.args.self.now))) (sym none) ∙ c.loop-slot.invariant.same)
