use Rattle.std.proofs.Common.{rules}
use Rattle.syntax_editor.proofs.editor.SyntaxEditor.exchange.Goals as goal

pub returns-clause-recorded : goal.returns-clause-recorded
returns-clause-recorded c = search rules
