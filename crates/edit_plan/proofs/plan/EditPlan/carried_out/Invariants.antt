use Rattle.edit_plan.proofs.AllowedRuns.{IsAlong}
use Rattle.edit_plan.proofs.plan.EditPlan.carried_out.Given as goal

abbrev pub invariant-loop-change : goal.invariant-loop-change
invariant-loop-change l = IsAlong l.self l.order l.change-index l.run
