use Rattle.edit_plan.proofs.edit_run.EditRun.new.Goals as goal

pub invariant_of-result : goal.invariant_of-result
invariant_of-result c = c.in_ok-stages.ensures.running
