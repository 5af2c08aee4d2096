use Rattle.std.proofs.Common.{rules}
use Rattle.script_lines.proofs.line.is_blank.Goals as goal

pub returns : goal.returns
returns c = search rules
