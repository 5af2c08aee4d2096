use Rattle.std.proofs.Common.{◌≡◌, ◌+◌, ◌≤◌, suc, length, sym, ◌∙◌, subst, arith}
use Rattle.std.specs.Result.{IfOk}
use Rattle.green_tree.specs.Path.{last_slot}
use Rattle.green_tree.specs.Tree.{children}
use Rattle.cst_core.specs.Element.{subtree}
use Rattle.cst_core.proofs.Families.{next_node-child, next_node-past, next_node-root}
use Rattle.cst_core.proofs.location.Location.next_node.Goals as goal

pub returns-in_default-clause-ok : goal.returns-in_default-clause-ok
returns-in_default-clause-ok c = sym (next_node-root c.args.self.now (sym c.lent_parent.ensures ∙ c.in_default.is))

pub returns-then-slot-len-clause-ok : goal.returns-then-slot-len-clause-ok
returns-then-slot-len-clause-ok c =
    let slot : c.index-slot.result + 1 ≡ suc (last_slot c.args.self.now.path) = omega (arith, c.index-slot.ensures) in
    subst (λ x. IfOk c.first_node_from.result (λ r. r ≡ x)) (next_node-child c.args.self.now c.in-Some.parent (c.index-slot.result + 1) (sym c.lent_parent.ensures ∙ c.in-Some.is) slot) c.first_node_from.ensures.ok

pub returns-then-slot-len-clause-none : goal.returns-then-slot-len-clause-none
returns-then-slot-len-clause-none c nothing =
    let slot : c.index-slot.result + 1 ≡ suc (last_slot c.args.self.now.path) = omega (arith, c.index-slot.ensures) in
    c.first_node_from.ensures.none (next_node-child c.args.self.now c.in-Some.parent (c.index-slot.result + 1) (sym c.lent_parent.ensures ∙ c.in-Some.is) slot ∙ nothing)

pub returns-else-slot-len-clause-ok : goal.returns-else-slot-len-clause-ok
returns-else-slot-len-clause-ok c =
    let past : length (children (subtree c.in-Some.parent)) ≤ suc (last_slot c.args.self.now.path) = omega (arith, c.index-slot.ensures, c.len.ensures, c.if-slot-len.false) in
    sym (next_node-past c.args.self.now c.in-Some.parent (sym c.lent_parent.ensures ∙ c.in-Some.is) past)
