use Rattle.std.proofs.Common.{subst, sym, rules}
use Rattle.edit_plan.specs.Plan.{Makes, RunRefuses}
use Rattle.edit_plan.specs.EditRefusal.{of_engine}
use Rattle.edit_plan.specs.Engine.{HasRewritten}
use Rattle.edit_plan.proofs.PromisesOfRuns.{engine-refuses, err-gives, err-holds}
use Rattle.edit_plan.proofs.edit_run.EditRun.finish_counting.Goals as goal

pub returns-in_err-edit-clause-refused : goal.returns-in_err-edit-clause-refused
returns-in_err-edit-clause-refused c =
    let error = c.in_err-edit.field-0.0 in
    err-gives (RunRefuses c.args.self.plan c.args.ids.now) c.from_residual-in_err-edit.result error c.from_residual-in_err-edit.ensures.1 (subst (λ r. RunRefuses r.plan c.args.ids.now error) c.self.view_is c.in_err-edit.ensures.refused)

pub returns-clause-count : goal.returns-clause-count
returns-clause-count c = search rules

pub returns-in_err-rewritten-clause-refused : goal.returns-in_err-rewritten-clause-refused
returns-in_err-rewritten-clause-refused c =
    let plan = c.args.self.plan in
    let next = c.args.ids.now in
    let error = c.in_err-rewritten.field-0.0 in
    err-gives (RunRefuses plan next) c.from_residual.result (of_engine error) c.from_residual.ensures.1 (engine-refuses plan next error c.in_err-rewritten.ensures.refused)

pub edit_of-requires-clause-rewritten : goal.edit_of-requires-clause-rewritten
edit_of-requires-clause-rewritten c =
    subst (λ r. HasRewritten r.plan c.in_ok-rewritten.rewritten) (sym c.self.view_is) c.in_ok-rewritten.ensures.ok

pub returns-clause-ok : goal.returns-clause-ok
returns-clause-ok c = subst (λ r. Makes r.plan c.args.ids.now c.in_ok-edit.edit) c.self.view_is c.in_ok-edit.ensures.ok

pub returns-in_err-edit-clause-err : goal.returns-in_err-edit-clause-err
returns-in_err-edit-clause-err c = err-holds c.from_residual-in_err-edit.result c.in_err-edit.ensures.err
