use Rattle.whitespace.proofs.Restored.{tree_restored}
use Rattle.syntax_editor.proofs.laws.dedent_restores.Goals as goal

pub returns : goal.returns
returns c = tree_restored
