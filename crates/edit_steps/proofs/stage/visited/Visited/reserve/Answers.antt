use Rattle.std.proofs.Common.{rules}
use Rattle.edit_steps.proofs.stage.visited.Visited.reserve.Goals as goal

pub returns-clause-room : goal.returns-clause-room
returns-clause-room c = search rules
