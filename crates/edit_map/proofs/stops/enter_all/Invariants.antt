use Rattle.std.proofs.Common.{◌≡◌, Some, map, take}
use Rattle.path_table.specs.inner.PathTable.{SameValues, IsTree}
use Rattle.edit_map.specs.inner.Climbing.{cell_of}
use Rattle.edit_map.proofs.stops.enter_all.Given as goal

abbrev pub invariant-loop-input : goal.invariant-loop-input
invariant-loop-input l = record {
  tree : IsTree l.numbers;
  cells : map Some l.cells.items ≡ map (λ pair. cell_of l.numbers pair.0) (take l.input-index l.pairs);
  values : SameValues l.fn.numbers l.numbers;
}
