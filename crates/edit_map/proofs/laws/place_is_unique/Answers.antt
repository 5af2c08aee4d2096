use Rattle.edit_map.proofs.Places.{StandsFor-unique}
use Rattle.edit_map.proofs.laws.place_is_unique.Goals as goal

pub returns : goal.returns
returns c m payload target p q rising = StandsFor-unique m rising payload p q target
