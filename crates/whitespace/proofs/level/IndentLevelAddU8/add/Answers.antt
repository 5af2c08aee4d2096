use Rattle.std.proofs.Common.{rules}
use Rattle.whitespace.proofs.level.IndentLevelAddU8.add.Goals as goal

pub returns : goal.returns
returns c = search rules
