use Rattle.std.proofs.Common.{rules}
use Rattle.cst_core.proofs.shape.same_shape.Goals as goal

pub returns : goal.returns
returns c = search rules
