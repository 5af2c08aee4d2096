use Rattle.std.proofs.Common.{ℕ, List, Option, Vec, IfErr, IfSome, option_map, subst}
use Rattle.std.specs.Global.{Global}
use Rattle.syntax_editor.specs.Editor.{plan_of}
use Rattle.syntax_editor.specs.Plan.{IsPlan, Makes}
use Rattle.syntax_editor.specs.Schedule.{IsAllowed}
use Rattle.syned_script.specs.Script.{EndRefuses}
use Rattle.syned_script.specs.inner.Run.{RunStops}
use Rattle.syned_script.specs.inner.Stops.{StopsFor}
use Rattle.syned_script.specs.declared.stop.Stop.TheVariants.{Memory}
use Rattle.syned_script.proofs.Stopping.{by-err}
use Rattle.syned_script.proofs.Ending.{listed-so, plan-stops}
use Rattle.syned_script.proofs.carried_out.carry_changes_out.Goals as goal

pub returns-in_err-edit-clause-stops : goal.returns-in_err-edit-clause-stops
returns-in_err-edit-clause-stops c =
    let listed : Option (Vec ℕ Global) → Option (List ℕ) = option_map (λ v. v.items) in
    let editor = c.args.editing.editor in
    let order = listed c.args.editing.order in
    let same = c.in_ok-plan.ensures.ok in
    let stop = c.in_err-edit.field-0.0 in
    by-err (λ r. IfErr r (StopsFor ⊥ (EndRefuses editor order c.args.ids.now))) c.from_residual-in_err-edit.result stop c.from_residual-in_err-edit.ensures.1
    (plan-stops editor order c.args.ids.now stop (subst IsPlan same c.in_ok-plan.ensures.planned) (subst (λ p. StopsFor ⊥ (RunStops p order c.args.ids.now) stop) same c.in_err-edit.ensures.stops))

pub returns-in_err-edits-clause-stops : goal.returns-in_err-edits-clause-stops
returns-in_err-edits-clause-stops c =
    let listed : Option (Vec ℕ Global) → Option (List ℕ) = option_map (λ v. v.items) in
    by-err (λ r. IfErr r (StopsFor ⊥ (EndRefuses c.args.editing.editor (listed c.args.editing.order) c.args.ids.now))) c.from_residual-in_err-edits.result Memory c.from_residual-in_err-edits.ensures.1 tt

pub returns-clause-done : goal.returns-clause-done
returns-clause-done c =
    let same = c.in_ok-plan.ensures.ok in
    let allowed = listed-so (IsAllowed (plan_of c.args.editing.editor).changes) c.args.editing.order (subst (λ p. IfSome c.args.editing.order (λ v. IsAllowed p.changes v.items)) same c.in_ok-edit.ensures.allowed) in
    (subst IsPlan same c.in_ok-plan.ensures.planned, allowed, subst (λ p. Makes p c.args.ids.now c.in_ok-edit.edit) same c.in_ok-edit.ensures.ok, c.in_ok-edit.ensures.short)
