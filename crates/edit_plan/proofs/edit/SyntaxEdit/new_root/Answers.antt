use Rattle.std.proofs.Common.{rules}
use Rattle.edit_plan.proofs.edit.SyntaxEdit.new_root.Goals as goal

pub returns : goal.returns
returns c = search rules
