use Rattle.edit_map.proofs.Distinct.{distinct-stands}
use Rattle.edit_map.proofs.laws.each_pair_stands.Goals as goal

pub returns : goal.returns
returns c = distinct-stands
