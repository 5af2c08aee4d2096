use Rattle.std.proofs.Common.{rules}
use Rattle.whitespace.proofs.level.IndentLevel.is_zero.Goals as goal

pub returns : goal.returns
returns c = search rules
