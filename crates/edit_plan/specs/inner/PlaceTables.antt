-- The places of owners' targets, as they are found for one change after another.
--     IsPlaceOf                     the only place of an owner's target in its payload, or that there is none
--     IsPlaced                      a table has no other places than those of owners
--     FoundSoFar                    the changes before this one find places in a table
--     IsFoundPlace, PlacesStay      a table has the place of an owner's target, or none where there is none; what it had stays
--     TellsPlace                    an answer tells whether a change has a place, where this is that of its owner's target
use Rattle.std.specs.Prelude.{◌≡◌, ◌↔◌, ◌<◌, ℕ, Bool, IsTrue, IsSomeAnd, List, slice_get, Option, Some, Vec}
use Rattle.std.specs.Global.{Global}
use Rattle.cst_core.specs.Path.{Path}
use Rattle.edit_map.specs.Mapping.{Mapping, path_in}
use Rattle.edit_change.specs.Places.{IsPlaceIn, HasPlace}
use Rattle.edit_change.specs.Nesting.{owner}
use Rattle.edit_change.specs.declared.change.Change.{Change}
use Rattle.edit_change.specs.inner.OwnerPlaces.{path_at}

abbrev pub IsPlaceOf : Mapping → Change → Option Path → Type 0
IsPlaceOf m o place = (p : Path) → IsPlaceIn m o p ↔ (place ≡ Some p)

module _ (m : Mapping) (changes : List Change) (table : List (Option (Vec ℕ Global))) where
  abbrev pub IsPlaced : Type 0
  IsPlaced = (c : ℕ) (o : Change) (p : Path) → slice_get changes c ≡ Some o → path_at table c ≡ Some p → IsPlaceOf m o (Some p)

  abbrev pub FoundSoFar : ℕ → Type 0
  FoundSoFar n =
      (i e : ℕ) (c o : Change) → i < n → slice_get changes i ≡ Some c → owner changes c ≡ Some e → slice_get changes e ≡ Some o → (p : Path) × (path_at table e ≡ Some p) × HasPlace m o c p

abbrev pub IsFoundPlace : Mapping → List Change → List (Option (Vec ℕ Global)) → ℕ → Type 0
IsFoundPlace m changes table owner = (o : Change) → slice_get changes owner ≡ Some o → IsPlaceOf m o (path_at table owner)

abbrev pub PlacesStay : List (Option (Vec ℕ Global)) → List (Option (Vec ℕ Global)) → Type 0
PlacesStay before after = (c : ℕ) (p : Path) → path_at before c ≡ Some p → path_at after c ≡ Some p

abbrev pub TellsPlace : Option (Vec ℕ Global) → Change → Change → Bool → Type 0
TellsPlace place o c b = (m : Mapping) → IsPlaceOf m o (path_in place) → IsTrue b ↔ IsSomeAnd (path_in place) (HasPlace m o c)
