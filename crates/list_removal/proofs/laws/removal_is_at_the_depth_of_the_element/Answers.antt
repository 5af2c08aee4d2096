use Rattle.std.specs.Prelude.{Some}
use Rattle.std.proofs.Common.{ap}
use Rattle.list_removal.proofs.OneDepth.{run_depth}
use Rattle.list_removal.proofs.laws.removal_is_at_the_depth_of_the_element.Goals as goal

pub returns : goal.returns
returns c separator e = ap Some (run_depth separator e)
