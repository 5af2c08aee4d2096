use Rattle.std.proofs.Common.{◌≡◌, ◌∷◌, take}
use Rattle.cst_core.specs.Element.{address}
use Rattle.path_table.specs.inner.PathTable.{cell_at}
use Rattle.edit_map.specs.inner.Climbing.{IsFree, IsLastStop, Passes}
use Rattle.edit_map.proofs.stops.stop_above.Given as goal

abbrev pub invariant-loop-depth : goal.invariant-loop-depth
invariant-loop-depth l = record {
  cell : l.cell ≡ cell_at l.numbers (l.node.number ∷ take l.depth l.node.path);
  stop : IsLastStop (Passes (IsFree l.numbers) (address l.payload) (address l.node)) l.depth l.stop;
}
