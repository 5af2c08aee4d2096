use Rattle.std.proofs.Common.{rules}
use Rattle.whitespace.proofs.level.IndentLevelFromU8.from.Goals as goal

pub returns : goal.returns
returns c = search rules
