use Rattle.std.proofs.Common.{rules}
use Rattle.syntax_editor.proofs.factory.SyntaxFactory.without_mappings.Goals as goal

pub returns : goal.returns
returns c = search rules
