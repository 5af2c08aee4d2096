use Rattle.std.proofs.Common.{rules}
use Rattle.cst_core.proofs.slot_path.SlotPath.as_slice.Goals as goal

pub returns-in-Two : goal.returns-in-Two
returns-in-Two c = search rules
