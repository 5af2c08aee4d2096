use Rattle.std.proofs.Common.{rules}
use Rattle.syntax_editor.proofs.editor.SyntaxEditor.changes.Goals as goal

pub returns-clause-list : goal.returns-clause-list
returns-clause-list c = search rules

pub returns-clause-is_editor : goal.returns-clause-is_editor
returns-clause-is_editor c = search rules
