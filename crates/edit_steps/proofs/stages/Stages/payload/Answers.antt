use Rattle.std.proofs.Common.{rules}
use Rattle.edit_steps.proofs.stages.Stages.payload.Goals as goal

pub returns-in-None : goal.returns-in-None
returns-in-None c = search rules
