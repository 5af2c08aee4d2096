use Rattle.edit_plan.proofs.NextReady.{NoneBefore}
use Rattle.edit_plan.proofs.edit_run.EditRun.next_ready.Given as goal

abbrev pub invariant-loop-change : goal.invariant-loop-change
invariant-loop-change l = NoneBefore l.self l.change
