use Rattle.std.proofs.Common.{◌≡◌, ◌-◌, ℕ, length}
use Rattle.std.specs.Prelude.{suc}
use Rattle.edit_steps.specs.inner.Widths.{total, width_in}
use Rattle.edit_steps.specs.inner.Visited.{below_at}
use Rattle.edit_steps.proofs.stage.visited.Visited.enter.Given as goal

abbrev pub invariant-longer : goal.invariant-longer
invariant-longer l = record {
  below : (i : ℕ) → below_at l.self-inside.below.items i ≡ below_at l.fn.self.below i;
  widths : l.self-inside.widths.items ≡ l.fn.self.widths;
  gaps : l.self-inside.gaps.items ≡ l.fn.self.gaps;
  before : l.self-inside.before ≡ total (width_in l.self-inside.widths.items) l.self-inside.slot;
}

abbrev pub decreases-longer : goal.decreases-longer
decreases-longer l = suc l.slot - length l.self-inside.below.items
