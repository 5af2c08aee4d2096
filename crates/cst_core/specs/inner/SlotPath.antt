-- The slots that a path holds, wherever it keeps them.
--     slots_of                        they
use Rattle.std.specs.Prelude.{ℕ, List, []}
use Rattle.cst_core.specs.declared.slot_path.SlotPath.{SlotPath}
use Rattle.cst_core.specs.declared.slot_path.SlotPath.TheVariants.{Empty, One, Two, Three, Long}

abbrev pub slots_of : SlotPath → List ℕ
slots_of Empty = []
slots_of (One slots) = slots
slots_of (Two slots) = slots
slots_of (Three slots) = slots
slots_of (Long slots) = slots.items
