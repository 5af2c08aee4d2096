use Rattle.std.proofs.Common.{◌≡◌, ◌<◌, ◌≤◌, ℕ, length}
use Rattle.std.specs.Prelude.{None, Some, slice_get}
use Rattle.edit_change.specs.Aim.{Aim}
use Rattle.edit_change.specs.declared.change.Change.{Change}
use Rattle.edit_steps.specs.inner.Followers.{link, gap_link, next_in_gap}
use Rattle.edit_steps.specs.inner.GapTable.{gap_entry}
use Rattle.edit_steps.proofs.order.followers.next_in_gaps.Given as goal

abbrev pub invariant-loop-number : goal.invariant-loop-number
invariant-loop-number l = record {
  seen : (a : Aim) → gap_entry l.seen a ≡ next_in_gap l.changes l.number a;
  long : length l.links.items ≡ length l.changes;
  before : (n : ℕ) (c : Change) → n < l.number → slice_get l.changes n ≡ Some c → link l.links.items n ≡ gap_link l.changes n c;
  after : (n : ℕ) → l.number ≤ n → link l.links.items n ≡ None;
}
