use Rattle.std.proofs.Common.{rules}
use Rattle.edit_plan.proofs.edit_run.EditRun.builds.Goals as goal

pub returns : goal.returns
returns c = search rules
