use Rattle.std.proofs.Common.{rules}
use Rattle.syntax_editor.proofs.factory.SyntaxFactory.whitespace.Goals as goal

pub returns-clause-drawn : goal.returns-clause-drawn
returns-clause-drawn c = search rules
