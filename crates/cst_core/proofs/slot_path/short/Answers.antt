use Rattle.std.proofs.Common.{arith}
use Rattle.std.proofs.lemmas.Grind.{common_steps}
use Rattle.cst_core.proofs.slot_path.short.Goals as goal

pub returns-in-len2 : goal.returns-in-len2
returns-in-len2 c = grind (arith, common_steps)
