use Rattle.std.proofs.Common.{rules}
use Rattle.syntax_editor.proofs.editor.SyntaxEditor.add_annotation.Goals as goal

pub returns-clause-registered : goal.returns-clause-registered
returns-clause-registered g c = search rules
