use Rattle.edit_map.proofs.Making.{pairs-rise}
use Rattle.edit_map.proofs.laws.pairs_rise.Goals as goal

pub returns : goal.returns
returns c = pairs-rise
