use Rattle.std.proofs.Common.{rules}
use Rattle.one_pass.proofs.mark.fn.marks_before.is_before.Goals as goal

pub returns-in-len1-up : goal.returns-in-len1-up
returns-in-len1-up c = search rules
