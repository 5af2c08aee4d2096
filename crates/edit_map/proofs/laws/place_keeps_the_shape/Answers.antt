use Rattle.edit_map.proofs.Shapes.{place-shape}
use Rattle.edit_map.proofs.laws.place_keeps_the_shape.Goals as goal

pub returns : goal.returns
returns c = place-shape
