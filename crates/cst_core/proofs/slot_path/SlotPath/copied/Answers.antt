use Rattle.std.proofs.Common.{rules}
use Rattle.cst_core.proofs.slot_path.SlotPath.copied.Goals as goal

pub returns-in-Some : goal.returns-in-Some
returns-in-Some c = search rules
