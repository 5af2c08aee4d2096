use Rattle.std.proofs.Common.{rules}
use Rattle.syntax_editor.proofs.editor.SyntaxEditor.insert_all.Goals as goal

pub returns-clause-refused : goal.returns-clause-refused
returns-clause-refused c = search rules

pub returns-clause-unchanged : goal.returns-clause-unchanged
returns-clause-unchanged c = search rules
