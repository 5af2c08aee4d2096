use Rattle.std.proofs.Common.{rules}
use Rattle.list_removal.proofs.remove.removed_run.Goals as goal

pub returns-in-Some : goal.returns-in-Some
returns-in-Some c = search rules

pub returns-in-Some-2 : goal.returns-in-Some-2
returns-in-Some-2 c = search rules

pub returns : goal.returns
returns c = search rules
