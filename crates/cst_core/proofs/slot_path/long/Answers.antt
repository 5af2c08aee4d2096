use Rattle.std.proofs.Common.{rules}
use Rattle.cst_core.proofs.slot_path.long.Goals as goal

pub returns : goal.returns
returns c = search rules
