use Rattle.std.proofs.Common.{◌≡◌, take}
use Rattle.path_table.specs.inner.PathTable.{cell_at}
use Rattle.path_table.proofs.table.PathTable.get.Given as goal

abbrev pub invariant-loop-slot : goal.invariant-loop-slot
invariant-loop-slot g l = l.cell ≡ cell_at l.self (take l.slot-index l.path)
