use Rattle.std.proofs.Common.{rules}
use Rattle.edit_change.proofs.position.Position.ahead_of.Goals as goal

pub returns-in_default : goal.returns-in_default
returns-in_default c = search rules

pub returns-in-Some-2 : goal.returns-in-Some-2
returns-in-Some-2 c = search rules

pub returns-in-None : goal.returns-in-None
returns-in-None c = search rules
