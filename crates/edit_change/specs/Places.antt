-- What finishing a list of changes answers: the new tree with what is told of it, or a refusal.
--     IsPlaceIn                     An owner's payload has an element at this path, and the path is the place of the owner's target.
--     HasPlace                      The place from which a change finds where it moves to: `IsPlaceIn`, but not `.` for an insert after the
--                                   owner's target itself, since there is no gap after the top of a payload.
--     IsUnplaced, IsFirstUnplaced   A change has an owner, but no place in its payload; the first change for which this holds. A list with
--                                   such a change is refused.
--     FindsPlace, ArePlaces         With one path for each owner, a change has its place at the path of its owner; every change has.
--     elements_held                 All element values of a plan: the root, those of its changes, the registered and the mapped ones.
--     TextIsTooLong                 The text of the new tree reaches the limit. Trees on the way to it do not count.
--
-- Replacing `R/1` by itself and inserting `x` after `R/1`: change 1 has no place in the payload of change 0. Replacing
-- `R/1/0` and replacing `R/1` by a literal to which nothing is mapped: change 0 has no place in the payload of change
-- 1.
use Rattle.std.specs.Prelude.{◌≡◌, ◌≢◌, ℕ, ◌<◌, ◌≤◌, List, [], ◌∷◌, ◌++◌, map, flat_map, slice_get, Some, IfSome, IsSome, IsSomeAnd, All}
use Rattle.cst_core.specs.Path.{Path}
use Rattle.cst_core.specs.Tree.{at, text_length}
use Rattle.cst_core.specs.Element.{Element, address, subtree}
use Rattle.cst_core.specs.SyntaxElement.{element_of}
use Rattle.cst_core.specs.Green.{length_limit}
use Rattle.edit_map.specs.Mapping.{Mapping, StandsFor, mapped_elements}
use Rattle.edit_change.specs.Change.{elements}
use Rattle.edit_change.specs.Aim.{AfterElement}
use Rattle.edit_change.specs.ChangeAim.{aim, aim_path}
use Rattle.edit_change.specs.Nesting.{owner}
use Rattle.edit_change.specs.NewTree.{OriginTree}
use Rattle.edit_change.specs.declared.change.Change.{Change}
use Rattle.edit_change.specs.declared.change.Change.TheVariants.{Replace}

-- A payload has an element at each such path where equal numbers have equal trees.
abbrev pub IsPlaceIn : Mapping → Change → Path → Type 0
IsPlaceIn m (Replace t (Some r)) place = StandsFor m (address (element_of r)) place (address (element_of t)) × IsSome (at (subtree (element_of r)) place)
IsPlaceIn m _ place = ⊥

-- An insert after the target itself has no gap where the payload stands in the target's place whole.
abbrev pub HasPlace : Mapping → Change → Change → Path → Type 0
HasPlace m o c place = IsPlaceIn m o place × (place ≡ [] → aim c ≢ AfterElement (aim_path o))

-- change i has the owner d, and no place in its payload
abbrev pub IsUnplaced : Mapping → List Change → ℕ → ℕ → Type 0
IsUnplaced m changes i d =
    IsSomeAnd (slice_get changes i) (λ c. (owner changes c ≡ Some d) × IsSomeAnd (slice_get changes d) (λ o. (place : Path) → HasPlace m o c place → ⊥))

pub record IsFirstUnplaced (m : Mapping) (changes : List Change) (i d : ℕ) : Type 0 where
  pub unplaced : IsUnplaced m changes i d
  pub first : (j e : ℕ) → j < i → IsUnplaced m changes j e → ⊥

-- if the change has an owner, it has its place at the one that is kept for the owner
abbrev pub FindsPlace : Mapping → List Change → (ℕ → Path) → Change → Type 0
FindsPlace m changes places c = IfSome (owner changes c) (λ d. IfSome (slice_get changes d) (λ o. HasPlace m o c (places d)))

abbrev pub ArePlaces : Mapping → List Change → (ℕ → Path) → Type 0
ArePlaces m changes places = All (FindsPlace m changes places) changes

abbrev pub elements_held : Element → List Change → List (Element × ℕ) → Mapping → List Element
elements_held root changes registrations m = root ∷ flat_map elements changes ++ map (λ r. r.0) registrations ++ mapped_elements m

abbrev pub TextIsTooLong : OriginTree → Type 0
TextIsTooLong t = length_limit ≤ text_length t
