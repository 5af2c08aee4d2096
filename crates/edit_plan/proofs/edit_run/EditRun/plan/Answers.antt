use Rattle.std.proofs.Common.{rules, subst}
use Rattle.edit_plan.specs.Run.{IsRun}
use Rattle.edit_plan.proofs.RunFacts.{is-run}
use Rattle.edit_plan.proofs.edit_run.EditRun.plan.Goals as goal

pub returns-clause-value : goal.returns-clause-value
returns-clause-value c = search rules

pub returns-clause-run : goal.returns-clause-run
returns-clause-run c = subst IsRun c.self.view_is (is-run _ _ c.self.invariant)
