use Rattle.std.proofs.Common.{rules}
use Rattle.edit_plan.proofs.cursor.cursor_of.Goals as goal

pub returns : goal.returns
returns c = search rules
