use Rattle.std.proofs.Common.{rules}
use Rattle.edit_steps.proofs.stages.Stages.is_complete.Goals as goal

pub returns : goal.returns
returns c = search rules
