use Rattle.std.proofs.Common.{rules}
use Rattle.syntax_editor.proofs.record.is_misplaced.Goals as goal

pub returns-then-is_root : goal.returns-then-is_root
returns-then-is_root c = search rules
