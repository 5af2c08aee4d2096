use Rattle.std.proofs.Common.{arith}
use Rattle.std.proofs.lemmas.Grind.{common_steps}
use Rattle.one_pass.proofs.mark.push_mark.Goals as goal

pub returns : goal.returns
returns c = grind (arith, common_steps)
