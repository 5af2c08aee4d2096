use Rattle.std.proofs.Common.{◌≡◌, ◌<◌, ℕ, length, take}
use Rattle.std.specs.Prelude.{slice_index, count_by}
use Rattle.edit_steps.specs.inner.Waits.{points_at}
use Rattle.edit_steps.proofs.order.waits.counts.Given as goal

abbrev pub invariant-loop-link : goal.invariant-loop-link
invariant-loop-link l = record {
  long : length l.counts.items ≡ length l.links;
  counted : (n : ℕ) → n < length l.links → slice_index l.counts.items n ≡ count_by (points_at n) (take l.link-index l.links);
}
