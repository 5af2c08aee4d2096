use Rattle.std.proofs.Common.{subst, OnOk}
use Rattle.edit_plan.specs.Run.{CountsStep}
use Rattle.edit_plan.proofs.edit_run.EditRun.step.Goals as goal

pub returns-clause-builds : goal.returns-clause-builds
returns-clause-builds c =
    subst (λ r. OnOk c.carry_out.result (CountsStep r c.args.change c.carry_out.new.stages.builds)) c.self.view_is c.carry_out.ensures.count
