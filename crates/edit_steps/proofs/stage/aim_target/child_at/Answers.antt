use Rattle.std.proofs.Common.{◌-◌, length, take, get_or, cond, ap, sym, ◌∙◌}
use Rattle.std.specs.Prelude.{Some, None, option_map, option_and_then}
use Rattle.std.proofs.lemmas.Bool.{lt-ltb, le-ltb}
use Rattle.green_tree.specs.GreenElement.{element_tree}
use Rattle.edit_steps.specs.inner.AimTargets.{Child, child_in, child_of}
use Rattle.edit_steps.proofs.Aims.{child-by-last}
use Rattle.edit_steps.proofs.stage.aim_target.child_at.Goals as goal

pub returns-in_err-count-clause-child : goal.returns-in_err-count-clause-child
returns-in_err-count-clause-child c =
    let p = c.args.path.now in
    let t = element_tree c.args.element.now in
    ap (option_map child_of) c.from_residual.ensures ∙ ap (option_and_then (child_in (take (length p - 1) p) (get_or p (length p - 1) 0))) c.in_err-count.ensures ∙ sym (child-by-last t p c.in-len1-up.len_at_least)

pub returns-then-slot-count-clause-child : goal.returns-then-slot-count-clause-child
returns-then-slot-count-clause-child c =
    let p = c.args.path.now in
    let t = element_tree c.args.element.now in
    let i = get_or p (length p - 1) 0 in
    let found : Child = record { parent = take (length p - 1) p; slot = i; left = c.in_ok-count.count - i } in
    sym (child-by-last t p c.in-len1-up.len_at_least ∙ ap (option_and_then (child_in (take (length p - 1) p) i)) (sym c.in_ok-count.ensures) ∙ ap (λ b. cond b (Some found) None) (lt-ltb i c.in_ok-count.count c.if-slot-count.true))

pub returns-clause-child : goal.returns-clause-child
returns-clause-child c =
    let p = c.args.path.now in
    let t = element_tree c.args.element.now in
    let i = get_or p (length p - 1) 0 in
    let found : Child = record { parent = take (length p - 1) p; slot = i; left = c.in_ok-count.count - i } in
    sym (child-by-last t p c.in-len1-up.len_at_least ∙ ap (option_and_then (child_in (take (length p - 1) p) i)) (sym c.in_ok-count.ensures) ∙ ap (λ b. cond b (Some found) None) (le-ltb i c.in_ok-count.count c.if-slot-count.false))
