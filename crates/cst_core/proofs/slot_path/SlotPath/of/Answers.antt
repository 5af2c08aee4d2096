use Rattle.std.proofs.Common.{rules}
use Rattle.cst_core.proofs.slot_path.SlotPath.of.Goals as goal

pub returns-in-None : goal.returns-in-None
returns-in-None c = search rules
