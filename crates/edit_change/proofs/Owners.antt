-- The owner of a change.
--     owner_cases, owner_from       what an owner is; the owner, from the test
--     owner_region                  the region of an owner has one of the surroundings of what it owns
--     owner_at                      an owner is one of the changes
use Rattle.std.specs.Prelude.{◌≡◌, ℕ, true, false, cond, nat_eq, List, [], ◌∷◌, filter_map, slice_get, Option, Some, None, refl}
use Rattle.std.specs.List.{AllByRecursion, cons_option}
use Rattle.std.specs.Option.{option_map_or}
use Rattle.std.proofs.Common.{ap, sym, get_or}
use Rattle.std.proofs.lemmas.Bool.{false≢true, eqb-true}
use Rattle.std.proofs.lemmas.List.Quantifiers.{position-Some}
use Rattle.std.proofs.lemmas.Option.{slice_get-get_or}
use Rattle.cst_core.specs.Path.{Path, has_path, last_item}
use Rattle.cst_core.specs.Tree as tree
use Rattle.cst_core.specs.declared.element.SyntaxElement.TheVariants.{Token}
use Rattle.edit_change.specs.Nesting.{region, surroundings, is_dropped, region_at, owner, has_owner}
use Rattle.edit_change.specs.declared.change.Change.{Change}
use Rattle.edit_change.specs.declared.change.Change.TheVariants.{ReplaceWithMany}
use Rattle.edit_change.proofs.Lists.{all_last}

pub owner_cases : (cs : List Change) (d : Change) (c : ℕ) → owner cs d ≡ Some c → (is_dropped cs d ≡ false) × (last_item (filter_map (region_at cs) (surroundings d)) ≡ Some c)
owner_cases cs d c h =
    let found = last_item (filter_map (region_at cs) (surroundings d)) in
    (elim (is_dropped cs d) as (λ b. cond b None found ≡ Some c → (b ≡ false) × (found ≡ Some c)) [
      | true ↦ λ k. cc
      | false ↦ λ k. (refl, k)
    ]) h

pub owner_from : (cs : List Change) (c : ℕ) (d : Change) → has_owner cs c d ≡ true → owner cs d ≡ Some c
owner_from cs c d h = go (owner cs d) h
  where
    go : (o : Option ℕ) → option_map_or (nat_eq c) o false ≡ true → o ≡ Some c
    go None k = absurd (false≢true k)
    go (Some e) k = ap (λ x. Some x) (sym (eqb-true c e k))

-- a change with this number, and a path of its region of which P holds
abbrev pub HasRegion : (Path → Type 0) → List Change → ℕ → Type 0
HasRegion P cs c = (r : Change) × (q : Path) × (slice_get cs c ≡ Some r) × (has_path (region r) q ≡ true) × P q

module _ (P : Path → Type 0) (cs : List Change) where
  region_at_has : (q : Path) (c : ℕ) → P q → region_at cs q ≡ Some c → HasRegion P cs c
  region_at_has q c holds h =
      let none : Change = ReplaceWithMany (Token (record { number = 0; root = tree.Token 0 []; path = [] })) [] in
      let found = position-Some (λ r. has_path (region r) q) cs c none h in
      (get_or cs c none, q, slice_get-get_or cs c none found.0, found.1, holds)

  all_region_at : (qs : List Path) → AllByRecursion P qs → AllByRecursion (HasRegion P cs) (filter_map (region_at cs) qs)
  all_region_at [] a = tt
  all_region_at (q ∷ qs) a = go (region_at cs q) refl (all_region_at qs a.1)
    where
      go : (o : Option ℕ) → region_at cs q ≡ o → AllByRecursion (HasRegion P cs) (filter_map (region_at cs) qs) → AllByRecursion (HasRegion P cs) (cons_option o (filter_map (region_at cs) qs))
      go None is rest = rest
      go (Some c) is rest = (region_at_has q c a.0 is, rest)

  -- the owner has a region with one of the surroundings
  pub owner_region : (d : Change) (c : ℕ) → AllByRecursion P (surroundings d) → owner cs d ≡ Some c → HasRegion P cs c
  owner_region d c all h =
      all_last (HasRegion P cs) (filter_map (region_at cs) (surroundings d)) c (all_region_at (surroundings d) all) (owner_cases cs d c h).1

all_true : (ps : List Path) → AllByRecursion (λ p. Unit {0}) ps
all_true [] = tt
all_true (p ∷ ps) = (tt, all_true ps)

pub owner_at : (cs : List Change) (c : Change) (d : ℕ) → owner cs c ≡ Some d → (r : Change) × (slice_get cs d ≡ Some r)
owner_at cs c d h = let found = owner_region (λ p. Unit {0}) cs c d (all_true (surroundings c)) h in (found.0, found.2)
