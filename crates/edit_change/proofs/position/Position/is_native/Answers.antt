use Rattle.std.proofs.Common.{rules}
use Rattle.edit_change.proofs.position.Position.is_native.Goals as goal

pub returns-in-Some : goal.returns-in-Some
returns-in-Some c = search rules

pub returns-in-Some-first_of : goal.returns-in-Some-first_of
returns-in-Some-first_of c = search rules

pub returns-in-None : goal.returns-in-None
returns-in-None c = search rules
