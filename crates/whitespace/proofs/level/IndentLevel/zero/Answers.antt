use Rattle.std.proofs.Common.{rules}
use Rattle.whitespace.proofs.level.IndentLevel.zero.Goals as goal

pub returns : goal.returns
returns c = search rules
