use Rattle.std.proofs.Common.{◌≡◌, sym, subst}
use Rattle.std.specs.Prelude.{true, IfErr, IfOk}
use Rattle.edit_steps.specs.Schedule.{is_complete}
use Rattle.edit_plan.specs.Engine.{CountsTouched, EngineRefuses, HasRewritten}
use Rattle.edit_plan.specs.Run.{is_done}
use Rattle.edit_plan.specs.declared.engine_error.EngineError.TheVariants.{Memory}
use Rattle.edit_plan.proofs.RunFacts.{some-way, tree-shown, carried-tree}
use Rattle.edit_plan.proofs.PromisesOfRuns.{err-gives, ok-holds, with-tree}
use Rattle.edit_plan.proofs.edit_run.EditRun.rewritten_by_steps.Goals as goal

pub green-requires : goal.green-requires
green-requires c = some-way _ _ c.self.invariant

pub within_limit-requires : goal.within_limit-requires
within_limit-requires c =
    let complete = subst (λ r. is_complete r.plan.changes (is_done r) ≡ true) (sym c.self.view_is) c.requires in
    let shown = carried-tree c.self.inside.plan.now c.self.inside.stages _ (tree-shown c.self.inside.plan.now c.self.inside.stages c.self.invariant _ c.green.ensures) complete in
    with-tree c.self.inside.plan.now c.in_ok-rewritten.rewritten c.in_ok-green.green _ c.in_ok-rewritten.ensures.made c.in_ok-green.ensures shown

pub returns-clause-ok : goal.returns-clause-ok
returns-clause-ok c =
    subst (λ r. IfOk c.within_limit.result (HasRewritten r.plan)) c.self.view_is c.within_limit.ensures.ok

pub returns-clause-short : goal.returns-clause-short
returns-clause-short c = c.within_limit.ensures.short

pub returns-clause-refused : goal.returns-clause-refused
returns-clause-refused c =
    subst (λ r. IfErr c.within_limit.result (EngineRefuses r.plan)) c.self.view_is c.within_limit.ensures.refused

pub returns-in_err-green-clause-refused : goal.returns-in_err-green-clause-refused
returns-in_err-green-clause-refused c =
    err-gives (EngineRefuses c.args.self.now.plan) c.from_residual.result Memory c.from_residual.ensures.1 tt

pub returns-in_err-rewritten-clause-refused : goal.returns-in_err-rewritten-clause-refused
returns-in_err-rewritten-clause-refused c =
    err-gives (EngineRefuses c.args.self.now.plan) c.from_residual-in_err-rewritten.result Memory c.from_residual-in_err-rewritten.ensures.1 tt

pub returns-clause-count : goal.returns-clause-count
returns-clause-count c =
    ok-holds c.within_limit.result (subst (λ r. CountsTouched r.plan c.args.builds.now c.rewritten_tree.new.builds) c.self.view_is c.in_ok-rewritten.ensures.count)
