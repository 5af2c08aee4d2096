use Rattle.std.proofs.Common.{rules}
use Rattle.whitespace.proofs.shift.indented_text.Goals as goal

pub returns : goal.returns
returns c = search rules
