use Rattle.std.proofs.Common.{rules}
use Rattle.whitespace.proofs.space_error.SpaceError.of_level.Goals as goal

pub returns-in-LevelTooLarge : goal.returns-in-LevelTooLarge
returns-in-LevelTooLarge c = search rules

pub returns-in-Memory : goal.returns-in-Memory
returns-in-Memory c = search rules
