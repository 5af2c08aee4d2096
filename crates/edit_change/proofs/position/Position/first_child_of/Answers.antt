use Rattle.std.proofs.Common.{rules}
use Rattle.edit_change.proofs.position.Position.first_child_of.Goals as goal

pub returns : goal.returns
returns c = search rules
