use Rattle.std.proofs.Common.{◌≡◌, take}
use Rattle.path_table.specs.inner.Steps.{slots_of, way_end}
use Rattle.path_table.proofs.table.shared.Given as goal

abbrev pub invariant-loop-count : goal.invariant-loop-count
invariant-loop-count l = record {
  slots : slots_of (take l.count l.way) ≡ take l.count l.path;
  end : l.cell ≡ way_end 0 (take l.count l.way);
}
