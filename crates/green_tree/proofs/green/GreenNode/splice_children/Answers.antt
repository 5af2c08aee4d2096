use Rattle.std.proofs.Common.{arith}
use Rattle.std.proofs.lemmas.Grind.{common_steps}
use Rattle.green_tree.proofs.Splices.{trees-splice}
use Rattle.green_tree.proofs.green.GreenNode.splice_children.Goals as goal

pub returns : goal.returns
returns c = grind (arith, common_steps, trees-splice)
