use Rattle.std.proofs.Common.{arith}
use Rattle.std.proofs.lemmas.Grind.{common_steps}
use Rattle.syntax_editor.proofs.wrapper.green_wrapper.Goals as goal

pub returns : goal.returns
returns c = grind (arith, common_steps)
