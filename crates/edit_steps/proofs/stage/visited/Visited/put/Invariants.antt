use Rattle.std.proofs.Common.{◌≡◌, ◌≤◌, ◌+◌, ℕ, length}
use Rattle.edit_steps.specs.inner.Widths.{total, width_in}
use Rattle.edit_steps.proofs.Widths.{gone_from}
use Rattle.edit_steps.proofs.stage.visited.Visited.put.Given as goal

abbrev pub invariant-loop-slot : goal.invariant-loop-slot
invariant-loop-slot l = record {
  long : length l.self-inside.widths.items ≡ length l.fn.self.widths;
  taken : (i : ℕ) → width_in l.self-inside.widths.items i + gone_from l.first l.slot i ≡ width_in l.fn.self.widths i;
  gaps : l.self-inside.gaps.items ≡ l.fn.self.gaps;
  below : l.self-inside.below.items ≡ l.fn.self.below;
  before : l.self-inside.before ≡ total (width_in l.fn.self.widths) l.self-inside.slot;
  ahead : l.self-inside.slot ≤ l.first;
}
