use Rattle.std.proofs.Common.{◌≡◌, ◌≤◌, ◌+◌, suc, length, sym, ap, ◌∙◌, subst, arith}
use Rattle.std.specs.Result.{IfOk}
use Rattle.green_tree.specs.Path.{last_slot}
use Rattle.green_tree.specs.Tree.{children}
use Rattle.cst_core.specs.Element.{subtree}
use Rattle.cst_core.specs.inner.ChildSlots.{child_in}
use Rattle.cst_core.proofs.Children.{next_sibling-child, child_past-any}
use Rattle.cst_core.proofs.location.Location.next_sibling.Goals as goal

pub returns-then-slot-len-clause-ok : goal.returns-then-slot-len-clause-ok
returns-then-slot-len-clause-ok c =
    let slot : suc (last_slot c.args.self.now.path) ≡ c.index-slot.result + 1 = omega (arith, c.index-slot.ensures) in
    let found = next_sibling-child c.args.self.now c.in-Some.parent (sym c.lent_parent.ensures ∙ c.in-Some.is) ∙ ap (child_in c.in-Some.parent) slot in
    subst (λ x. IfOk c.child.result (λ r. r ≡ x)) (sym found) c.child.ensures.ok

pub returns-then-slot-len-clause-none : goal.returns-then-slot-len-clause-none
returns-then-slot-len-clause-none c nothing =
    let slot : suc (last_slot c.args.self.now.path) ≡ c.index-slot.result + 1 = omega (arith, c.index-slot.ensures) in
    let found = next_sibling-child c.args.self.now c.in-Some.parent (sym c.lent_parent.ensures ∙ c.in-Some.is) ∙ ap (child_in c.in-Some.parent) slot in
    c.child.ensures.none (sym found ∙ nothing)

pub returns-else-slot-len-clause-ok : goal.returns-else-slot-len-clause-ok
returns-else-slot-len-clause-ok c =
    let past : length (children (subtree c.in-Some.parent)) ≤ suc (last_slot c.args.self.now.path) = omega (arith, c.index-slot.ensures, c.len.ensures, c.if-slot-len.false) in
    sym (next_sibling-child c.args.self.now c.in-Some.parent (sym c.lent_parent.ensures ∙ c.in-Some.is) ∙ child_past-any c.in-Some.parent (suc (last_slot c.args.self.now.path)) past)
