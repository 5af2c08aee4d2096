use Rattle.std.proofs.Common.{◌≡◌, suc, sym, ◌∙◌, subst, arith}
use Rattle.std.specs.Result.{IfOk}
use Rattle.green_tree.specs.Path.{last_slot}
use Rattle.cst_core.proofs.Children.{previous_sibling-child}
use Rattle.cst_core.proofs.location.Location.previous_sibling.Goals as goal

pub returns-in-Some-checked_sub-clause-ok : goal.returns-in-Some-checked_sub-clause-ok
returns-in-Some-checked_sub-clause-ok c =
    let before = c.in-Some-checked_sub.ensures in
    let slot : last_slot c.args.self.now.path ≡ suc c.in-Some-checked_sub.slot = omega (arith, before.0, before.1, c.index.ensures) in
    let found = previous_sibling-child c.args.self.now c.in-Some.parent c.in-Some-checked_sub.slot (sym c.lent_parent.ensures ∙ c.in-Some.is) slot in
    subst (λ x. IfOk c.child.result (λ r. r ≡ x)) (sym found) c.child.ensures.ok

pub returns-in-Some-checked_sub-clause-none : goal.returns-in-Some-checked_sub-clause-none
returns-in-Some-checked_sub-clause-none c nothing =
    let before = c.in-Some-checked_sub.ensures in
    let slot : last_slot c.args.self.now.path ≡ suc c.in-Some-checked_sub.slot = omega (arith, before.0, before.1, c.index.ensures) in
    c.child.ensures.none (sym (previous_sibling-child c.args.self.now c.in-Some.parent c.in-Some-checked_sub.slot (sym c.lent_parent.ensures ∙ c.in-Some.is) slot) ∙ nothing)
