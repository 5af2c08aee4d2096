use Rattle.std.proofs.Common.{◌≡◌, ◌-◌, ◌<◌, ◌++◌, suc, length, Some, ap, sym, ◌∙◌, arith}
use Rattle.std.specs.Prelude.{reverse}
use Rattle.std.proofs.lemmas.List.{append-nil}
use Rattle.green_tree.specs.Tree.{at, children}
use Rattle.green_tree.specs.Green.{branch_tree}
use Rattle.cst_core.specs.Element.{subtree}
use Rattle.cst_core.specs.inner.ChildSlots.{nodes_up_to}
use Rattle.cst_core.proofs.ChildSlots.{nodes_pushed, nodes_up_to-all, last_node_passed}
use Rattle.cst_core.proofs.lent_node.LentNode.push_nodes.Goals as goal

pub loop-slot-init : goal.loop-slot-init
loop-slot-init c = record {
  within = omega (arith, c.len-slot.ensures);
  same = ap (λ ns. c.args.list.now.items ++ reverse ns) (nodes_up_to-all c.args.self.now c.len-slot.result c.len-slot.ensures);
}

pub loop-slot-preserved : goal.loop-slot-preserved
loop-slot-preserved c =
    let stands : at c.args.self.now.root c.args.self.now.path ≡ Some (branch_tree c.self.inside.green.now) = rw (← c.self.view_is) c.self.invariant.there in
    let inside : c.loop-slot.slot - 1 < length (children (subtree c.args.self.now)) = omega (arith, c.loop-slot.invariant.within, c.loop-slot-test.true) in
    let next : c.loop-slot.slot ≡ suc (c.loop-slot.slot - 1) = omega (arith, c.loop-slot-test.true) in
    record {
      within = omega (arith, c.loop-slot.invariant.within);
      same = ap (λ ns. c.loop-slot.list.items ++ reverse ns) (sym (last_node_passed c.args.self.now (branch_tree c.self.inside.green.now) (c.loop-slot.slot - 1) c.loop-slot.slot stands inside next (sym c.in_ok-node.ensures.ok ∙ c.in_default.is))) ∙ c.loop-slot.invariant.same;
    }

pub loop-slot-preserved-in-Continue-branch-3 : goal.loop-slot-preserved-in-Continue-branch-3
loop-slot-preserved-in-Continue-branch-3 c =
    let stands : at c.args.self.now.root c.args.self.now.path ≡ Some (branch_tree c.self.inside.green.now) = rw (← c.self.view_is) c.self.invariant.there in
    let inside : c.loop-slot.slot - 1 < length (children (subtree c.args.self.now)) = omega (arith, c.loop-slot.invariant.within, c.loop-slot-test.true) in
    let next : c.loop-slot.slot ≡ suc (c.loop-slot.slot - 1) = omega (arith, c.loop-slot-test.true) in
    let pushed = nodes_pushed c.args.self.now (branch_tree c.self.inside.green.now) (c.loop-slot.slot - 1) c.loop-slot.slot c.in-Some.node c.loop-slot.list.items stands inside next (sym c.in_ok-node.ensures.ok ∙ c.in-Some.is) in
    record {
      within = omega (arith, c.loop-slot.invariant.within);
      same = rw c.in_ok-push.ensures.items (pushed ∙ c.loop-slot.invariant.same);
    }

pub returns : goal.returns
returns c =
    let none : c.loop-slot.slot ≡ 0 = omega (arith, c.loop-slot-test.false) in
    sym (append-nil c.loop-slot.list.items) ∙ (ap (λ i. c.loop-slot.list.items ++ reverse (nodes_up_to c.args.self.now i)) (sym none) ∙ c.loop-slot.invariant.same)
