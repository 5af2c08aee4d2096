use Rattle.std.proofs.Common.{rules, arith}
use Rattle.std.proofs.lemmas.Grind.{common_steps}
use Rattle.edit_map.proofs.stops.stop_above.Goals as goal

pub returns : goal.returns
returns c = search rules

pub loop-depth-preserved : goal.loop-depth-preserved
loop-depth-preserved c = grind (arith, common_steps)
