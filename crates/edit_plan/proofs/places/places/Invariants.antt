use Rattle.std.proofs.Common.{◌≡◌, length}
use Rattle.edit_plan.specs.inner.PlaceTables.{IsPlaced, FoundSoFar}
use Rattle.edit_plan.proofs.places.places.Given as goal

abbrev pub invariant-loop-number : goal.invariant-loop-number
invariant-loop-number l = record {
  long : length l.places.items ≡ length l.changes;
  placed : IsPlaced l.mapping l.changes l.places.items;
  found : FoundSoFar l.mapping l.changes l.places.items l.number;
}
