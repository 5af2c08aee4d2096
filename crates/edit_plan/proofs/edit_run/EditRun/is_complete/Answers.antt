use Rattle.std.proofs.Common.{◌≡◌, subst}
use Rattle.edit_steps.specs.Schedule.{is_complete}
use Rattle.edit_plan.specs.Run.{is_done}
use Rattle.edit_plan.proofs.RunFacts.{complete-told}
use Rattle.edit_plan.proofs.edit_run.EditRun.is_complete.Goals as goal

pub returns : goal.returns
returns c = subst (λ r. c.is_complete.result ≡ is_complete r.plan.changes (is_done r)) c.self.view_is (complete-told _ _ c.self.invariant _ c.is_complete.ensures)
