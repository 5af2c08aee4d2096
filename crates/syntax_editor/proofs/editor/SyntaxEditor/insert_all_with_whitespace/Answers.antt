use Rattle.std.proofs.Common.{rules}
use Rattle.syntax_editor.proofs.editor.SyntaxEditor.insert_all_with_whitespace.Goals as goal

pub returns-in_err-insert_all-clause-err : goal.returns-in_err-insert_all-clause-err
returns-in_err-insert_all-clause-err c = search rules
