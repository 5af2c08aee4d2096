use Rattle.std.proofs.Common.{◌≡◌, take}
use Rattle.std.specs.Prelude.{Some}
use Rattle.path_table.specs.inner.Steps.{way_end}
use Rattle.path_table.specs.inner.PathTable.{cell_at, IsGrown}
use Rattle.path_table.proofs.table.PathTable.enter_cells.Given as goal

abbrev pub invariant-loop-depth : goal.invariant-loop-depth
invariant-loop-depth g l = record {
  leads : cell_at l.self (take l.depth l.path) ≡ Some l.cell;
  end : l.cell ≡ way_end 0 l.self.way.items;
  grown : IsGrown l.fn.self l.self;
}
