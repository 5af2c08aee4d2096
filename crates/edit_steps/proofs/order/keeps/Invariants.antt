use Rattle.std.proofs.Common.{◌≡◌, ◌<◌, ℕ}
use Rattle.std.specs.Prelude.{Some, slice_index}
use Rattle.edit_steps.specs.inner.Followers.{link}
use Rattle.edit_steps.proofs.order.keeps.Given as goal

abbrev pub invariant-loop-number : goal.invariant-loop-number
invariant-loop-number l =
    (n m : ℕ) → n < l.number → link l.links n ≡ Some m → slice_index l.indices n < slice_index l.indices m
