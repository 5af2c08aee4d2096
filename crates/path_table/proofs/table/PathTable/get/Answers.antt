use Rattle.std.proofs.Common.{◌∙◌, ap}
use Rattle.std.specs.Prelude.{Some}
use Rattle.std.proofs.lemmas.List.{take_all}
use Rattle.path_table.specs.inner.PathTable.{cell_at, value_in}
use Rattle.path_table.proofs.PathTables.{cell-more}
use Rattle.path_table.proofs.table.PathTable.get.Goals as goal

pub loop-slot-preserved : goal.loop-slot-preserved
loop-slot-preserved g c =
    c.below-cell.ensures ∙ cell-more c.args.self.now (Some 0) c.args.path.now c.loop-slot.slot-index c.loop-slot.cell c.loop-slot-test.true c.loop-slot.invariant

pub returns : goal.returns
returns g c =
    c.at.ensures ∙ ap (value_in c.args.self.now) (c.loop-slot.invariant ∙ ap (cell_at c.args.self.now) (take_all c.loop-slot.slot-index c.args.path.now c.loop-slot-test.false))
