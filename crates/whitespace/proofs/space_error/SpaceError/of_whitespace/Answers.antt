use Rattle.std.proofs.Common.{rules}
use Rattle.whitespace.proofs.space_error.SpaceError.of_whitespace.Goals as goal

pub returns-in-NoTreeNumber : goal.returns-in-NoTreeNumber
returns-in-NoTreeNumber c = search rules

pub returns-in-Memory : goal.returns-in-Memory
returns-in-Memory c = search rules
