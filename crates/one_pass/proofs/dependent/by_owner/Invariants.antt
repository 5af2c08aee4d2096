use Rattle.std.proofs.Common.{◌≡◌, ℕ, length}
use Rattle.edit_change.proofs.Independents.{independents-to}
use Rattle.edit_change.specs.inner.Aimed.{aims_of}
use Rattle.edit_change.specs.inner.OwnerPlaces.{places_in}
use Rattle.one_pass.specs.inner.OwnerTables.{dependents_in}
use Rattle.one_pass.proofs.Dependents.{dependents-to}
use Rattle.one_pass.proofs.dependent.by_owner.Given as goal

abbrev pub invariant-loop-number : goal.invariant-loop-number
invariant-loop-number l = record {
  free : aims_of l.free.items ≡ independents-to l.changes l.number;
  long : length l.owned.items ≡ length l.changes;
  entered : (c : ℕ) → dependents_in l.owned.items c ≡ dependents-to l.changes (places_in l.places) l.number c;
}
