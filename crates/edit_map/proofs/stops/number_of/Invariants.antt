use Rattle.std.proofs.Common.{◌≡◌, ◌∷◌, take}
use Rattle.path_table.specs.inner.PathTable.{cell_at}
use Rattle.edit_map.proofs.stops.number_of.Given as goal

abbrev pub invariant-loop-slot : goal.invariant-loop-slot
invariant-loop-slot l = l.cell ≡ cell_at l.numbers (l.node.number ∷ take l.slot-index l.node.path)
