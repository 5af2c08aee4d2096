use Rattle.std.proofs.Common.{arith}
use Rattle.std.proofs.lemmas.Grind.{common_steps}
use Rattle.green_tree.proofs.green.share_all.Goals as goal

pub returns : goal.returns
returns c = grind (arith, common_steps)

pub loop-element-preserved : goal.loop-element-preserved
loop-element-preserved c = grind (arith, common_steps)
