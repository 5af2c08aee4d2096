-- What code keeps of the changes that owners own, and of what changes give.
--     moved_dependent               a change that is owned, and where it aims in its owner's payload
--     dependents_in                 those of an owner, from a table by its number
--     AreDependents                 a table has for each change those that it owns
--     IsGiven, AreGiven             a table has what a change gives; what each change gives
use Rattle.std.specs.Prelude.{◌≡◌, ℕ, List, [], map, slice_get, Vec}
use Rattle.std.specs.Global.{Global}
use Rattle.std.specs.Option.{option_map_or}
use Rattle.cst_core.specs.Path.{Path}
use Rattle.one_pass.specs.declared.marked_element.GivenTable.{GivenTable}
use Rattle.one_pass.specs.inner.Pass.{given_in}
use Rattle.edit_change.specs.Rewriting.{NumberedAim}
use Rattle.edit_change.specs.inner.AimFrom.{aim_from}
use Rattle.edit_change.specs.NewTree.{plain, dependents, given}
use Rattle.edit_change.specs.declared.change.Change.{Change}
use Rattle.one_pass.specs.declared.dependent.Dependent.{Dependent}

abbrev pub moved_dependent : Dependent → NumberedAim
moved_dependent d = (d.number, aim_from d.path.items d.change.now)

abbrev pub dependents_in : List (Vec Dependent Global) → ℕ → List NumberedAim
dependents_in table c = option_map_or (λ v. map moved_dependent v.items) (slice_get table c) []

module _ (changes : List Change) (places : ℕ → Path) where
  abbrev pub AreDependents : List (Vec Dependent Global) → Type 0
  AreDependents table = (c : ℕ) → dependents_in table c ≡ dependents changes places c

  abbrev pub IsGiven : GivenTable → ℕ → Type 0
  IsGiven table c = given_in table c ≡ map plain (given changes places c)

  abbrev pub AreGiven : GivenTable → Type 0
  AreGiven table = (c : ℕ) → IsGiven table c
