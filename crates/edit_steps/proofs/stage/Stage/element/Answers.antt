use Rattle.std.proofs.Common.{rules}
use Rattle.edit_steps.proofs.stage.Stage.element.Goals as goal

pub returns : goal.returns
returns c = search rules
