use Rattle.std.proofs.Common.{◌≡◌, ◌≤◌, ◌+◌}
use Rattle.std.specs.Prelude.{max}
use Rattle.edit_steps.specs.inner.Widths.{total, width_in}
use Rattle.edit_steps.proofs.stage.visited.between.Given as goal

abbrev pub invariant-loop-slot : goal.invariant-loop-slot
invariant-loop-slot l = record {
  sum : total (width_in l.widths) l.from + l.sum ≡ total (width_in l.widths) l.slot;
  most : l.slot ≤ max l.from l.end;
}
