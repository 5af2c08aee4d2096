use Rattle.std.proofs.Common.{◌≡◌, length}
use Rattle.one_pass.specs.inner.Lists.{AreEmpty}
use Rattle.one_pass.proofs.mark.empty_lists.Given as goal

abbrev pub invariant-loop : goal.invariant-loop
invariant-loop g l = record {
  size : length l.lists.items ≡ l.counter;
  empty : AreEmpty l.lists.items;
}
