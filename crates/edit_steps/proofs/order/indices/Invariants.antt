use Rattle.std.proofs.Common.{◌≡◌, ◌<◌, ◌+◌, ℕ, length, drop}
use Rattle.std.specs.Prelude.{nat_eq, slice_index}
use Rattle.std.specs.List.{position_or_len}
use Rattle.edit_steps.proofs.order.indices.Given as goal

abbrev pub invariant-loop-index : goal.invariant-loop-index
invariant-loop-index l = record {
  long : length l.indices.items ≡ l.count;
  at : (n : ℕ) → n < l.count → slice_index l.indices.items n ≡ l.index + position_or_len (nat_eq n) (drop l.index l.order);
}
