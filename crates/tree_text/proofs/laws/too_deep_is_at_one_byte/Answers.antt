use Rattle.tree_text.specs.Depth.{depth_limit}
use Rattle.tree_text.proofs.Excluding.{deep-once}
use Rattle.tree_text.proofs.laws.too_deep_is_at_one_byte.Goals as goal

pub returns : goal.returns
returns c = λ gaps w i j one other. deep-once c.args.names.now gaps depth_limit w i j one other
