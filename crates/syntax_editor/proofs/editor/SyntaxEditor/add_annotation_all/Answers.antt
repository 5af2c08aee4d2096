use Rattle.std.proofs.Common.{arith}
use Rattle.std.proofs.lemmas.Grind.{common_steps}
use Rattle.syntax_editor.proofs.editor.SyntaxEditor.add_annotation_all.Goals as goal

pub returns-clause-registered : goal.returns-clause-registered
returns-clause-registered g c = grind (arith, common_steps)
