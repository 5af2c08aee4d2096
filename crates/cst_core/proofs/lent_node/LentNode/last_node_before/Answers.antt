use Rattle.std.proofs.Common.{◌≡◌, ◌-◌, suc, ◌<◌, Ok, Some, length, ap, sym, ◌∙◌, arith}
use Rattle.green_tree.specs.Path.{last_item}
use Rattle.green_tree.specs.Tree.{at, children}
use Rattle.green_tree.specs.Green.{branch_tree}
use Rattle.green_tree.proofs.FoundTokens.{err_is_not_ok, ok_some_is_not_none}
use Rattle.cst_core.specs.Element.{subtree}
use Rattle.cst_core.proofs.ChildSlots.{last_node_found, last_node_passed, last_node_none}
use Rattle.cst_core.proofs.lent_node.LentNode.last_node_before.Goals as goal

pub returns-in-Some-clause-ok : goal.returns-in-Some-clause-ok
returns-in-Some-clause-ok c =
    let stands : at c.args.self.now.root c.args.self.now.path ≡ Some (branch_tree c.self.inside.green.now) = rw (← c.self.view_is) c.self.invariant.there in
    let inside : c.loop-slot.slot - 1 < length (children (subtree c.args.self.now)) = omega (arith, c.requires, c.loop-slot.invariant.within, c.loop-slot-test.true) in
    let next : c.loop-slot.slot ≡ suc (c.loop-slot.slot - 1) = omega (arith, c.loop-slot-test.true) in
    sym (ap last_item c.loop-slot.invariant.same ∙ last_node_found c.args.self.now (branch_tree c.self.inside.green.now) (c.loop-slot.slot - 1) c.loop-slot.slot c.in-Some.node stands inside next (sym c.in_ok-node.ensures.ok ∙ c.in-Some.is))

pub loop-slot-preserved : goal.loop-slot-preserved
loop-slot-preserved c =
    let stands : at c.args.self.now.root c.args.self.now.path ≡ Some (branch_tree c.self.inside.green.now) = rw (← c.self.view_is) c.self.invariant.there in
    let inside : c.loop-slot.slot - 1 < length (children (subtree c.args.self.now)) = omega (arith, c.requires, c.loop-slot.invariant.within, c.loop-slot-test.true) in
    let next : c.loop-slot.slot ≡ suc (c.loop-slot.slot - 1) = omega (arith, c.loop-slot-test.true) in
    record {
      within = omega (arith, c.loop-slot.invariant.within);
      same = c.loop-slot.invariant.same ∙ last_node_passed c.args.self.now (branch_tree c.self.inside.green.now) (c.loop-slot.slot - 1) c.loop-slot.slot stands inside next (sym c.in_ok-node.ensures.ok ∙ c.in_default.is);
    }

pub returns-in_err-node-clause-none : goal.returns-in_err-node-clause-none
returns-in_err-node-clause-none c nothing =
    let stands : at c.args.self.now.root c.args.self.now.path ≡ Some (branch_tree c.self.inside.green.now) = rw (← c.self.view_is) c.self.invariant.there in
    let inside : c.loop-slot.slot - 1 < length (children (subtree c.args.self.now)) = omega (arith, c.requires, c.loop-slot.invariant.within, c.loop-slot-test.true) in
    let next : c.loop-slot.slot ≡ suc (c.loop-slot.slot - 1) = omega (arith, c.loop-slot-test.true) in
    absurd (err_is_not_ok (c.in_err-node.ensures.none (last_node_none c.args.self.now (branch_tree c.self.inside.green.now) (c.loop-slot.slot - 1) c.loop-slot.slot stands inside next (ap last_item (sym c.loop-slot.invariant.same) ∙ nothing))))

pub returns-in-Some-clause-none : goal.returns-in-Some-clause-none
returns-in-Some-clause-none c nothing =
    let stands : at c.args.self.now.root c.args.self.now.path ≡ Some (branch_tree c.self.inside.green.now) = rw (← c.self.view_is) c.self.invariant.there in
    let inside : c.loop-slot.slot - 1 < length (children (subtree c.args.self.now)) = omega (arith, c.requires, c.loop-slot.invariant.within, c.loop-slot-test.true) in
    let next : c.loop-slot.slot ≡ suc (c.loop-slot.slot - 1) = omega (arith, c.loop-slot-test.true) in
    let none = c.in_ok-node.ensures.none (last_node_none c.args.self.now (branch_tree c.self.inside.green.now) (c.loop-slot.slot - 1) c.loop-slot.slot stands inside next (ap last_item (sym c.loop-slot.invariant.same) ∙ nothing)) in
    absurd (ok_some_is_not_none (ap Ok c.in-Some.is) none)
