use Rattle.std.proofs.Common.{◌≡◌, ◌∙◌, ap, map, sym, subst, rules}
use Rattle.std.specs.Prelude.{All, true}
use Rattle.edit_change.specs.Nesting.{first_clash}
use Rattle.edit_change.specs.inner.DocumentOrder.{FitsSome}
use Rattle.edit_change.specs.inner.Fate.{fate}
use Rattle.edit_steps.specs.Schedule.{is_complete}
use Rattle.edit_plan.specs.ExecuteRefusal.{of_order, ExecuteRefuses}
use Rattle.edit_plan.specs.Plan.{Makes}
use Rattle.edit_plan.specs.Run.{is_done}
use Rattle.edit_plan.specs.declared.edit_error.EditError.TheVariants.{Memory}
use Rattle.edit_plan.specs.declared.execute_error.ExecuteError.TheVariants.{Edit}
use Rattle.edit_plan.proofs.AllowedRuns.{order-refused}
use Rattle.edit_plan.proofs.PromisesOfRuns.{err-gives, err-holds}
use Rattle.edit_plan.proofs.plan.EditPlan.execute.Goals as goal

pub check-requires-clause-fit : goal.check-requires-clause-fit
check-requires-clause-fit c =
    subst (All FitsSome) (sym c.deref.ensures.value) (λ k d l. (c.self.inside.root, c.self.invariant.is_plan.fit k d l))

pub returns-in_err-check-clause-refused : goal.returns-in_err-check-clause-refused
returns-in_err-check-clause-refused c =
    let refused = order-refused _ _ c.self.view_is _ c.deref.ensures.value c.args.order.now c.args.ids.now c.in_err-check.field-0.0 c.in_err-check.ensures.refused in
    err-gives (ExecuteRefuses c.args.self.now c.args.order.now c.args.ids.now) c.from_residual.result (of_order c.in_err-check.field-0.0) c.from_residual.ensures.1 refused

pub returns-in_err-finish-clause-refused : goal.returns-in_err-finish-clause-refused
returns-in_err-finish-clause-refused c = search rules

pub finish-requires : goal.finish-requires
finish-requires c =
    let is = c.in_ok-run.ensures in
    subst (λ p. is_complete p.changes (is_done c.in_ok-run.run') ≡ true) (sym is.plan_is) is.complete

pub returns-in_err-run-clause-refused : goal.returns-in_err-run-clause-refused
returns-in_err-run-clause-refused c =
    err-gives (ExecuteRefuses c.args.self.now c.args.order.now c.args.ids.now) c.from_residual-in_err-run.result (Edit Memory) c.from_residual-in_err-run.ensures.1 tt

pub check-requires-clause-apart : goal.check-requires-clause-apart
check-requires-clause-apart c = ap first_clash c.deref.ensures.value ∙ c.self.invariant.is_plan.apart

pub check-requires-clause-fates : goal.check-requires-clause-fates
check-requires-clause-fates c =
    c.deref-2.ensures.value ∙ c.self.invariant.fates_are ∙ sym (ap (λ cs. map (fate cs) cs) c.deref.ensures.value)

pub returns-in_err-finish-clause-err : goal.returns-in_err-finish-clause-err
returns-in_err-finish-clause-err c = err-holds c.from_residual-in_err-finish.result c.in_err-finish.ensures.err

pub returns-clause-ok : goal.returns-clause-ok
returns-clause-ok c =
    subst (λ p. Makes p c.args.ids.now c.in_ok-finish.field-0) c.in_ok-run.ensures.plan_is c.in_ok-finish.ensures.ok
