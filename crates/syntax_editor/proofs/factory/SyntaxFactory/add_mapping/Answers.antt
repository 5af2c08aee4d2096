use Rattle.std.proofs.Common.{rules}
use Rattle.syntax_editor.proofs.factory.SyntaxFactory.add_mapping.Goals as goal

pub returns-in-Some-clause-ok : goal.returns-in-Some-clause-ok
returns-in-Some-clause-ok c = search rules
