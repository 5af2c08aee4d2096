use Rattle.std.proofs.Common.{arith}
use Rattle.std.proofs.lemmas.Grind.{common_steps}
use Rattle.edit_change.proofs.change_text.write_exchanged.Goals as goal

pub returns : goal.returns
returns g c = grind (arith, common_steps)
