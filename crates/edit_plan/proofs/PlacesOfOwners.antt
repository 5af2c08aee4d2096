-- Places of owners' targets, found for one change after another.
--     owner-some, keeps-at          the change at a number has this owner, which replaces a node by a node
--     path-at-is                    a place in a table
--     first-unplaced                the first change that finds no place
--     found-more, none-found        one change more: with an owner, and without one
--     all-found                     each change finds its place
use Rattle.std.specs.Prelude.{◌≡◌, ℕ, ◌+◌, ◌<◌, ◌≤◌, true, List, [], length, slice_get, unwrap_or, Vec, Option, Some, None, option_and_then, IfSome, IsSomeAnd, get_or, refl}
use Rattle.std.specs.Global.{Global}
use Rattle.std.proofs.Common.{ap, sym, subst, ◌∙◌, arith}
use Rattle.std.proofs.lemmas.Bool.{cases_lt}
use Rattle.std.proofs.lemmas.Option.{same_Some, none-some, slice_get-get_or}
use mathlib.Core.Logic.{inl, inr}
use Rattle.cst_core.specs.Path.{Path}
use Rattle.edit_map.specs.Mapping.{path_in, Mapping}
use Rattle.edit_change.specs.Nesting.{is_keeping, owner}
use Rattle.edit_change.specs.inner.OwnerPlaces.{path_at, places_in}
use Rattle.edit_plan.specs.inner.PlaceTables.{IsPlaceOf, FoundSoFar}
use Rattle.edit_change.specs.Places.{HasPlace, IsUnplaced, IsFirstUnplaced, FindsPlace}
use Rattle.edit_change.specs.declared.change.Change.{Change}
use Rattle.edit_change.proofs.OwnersKeep.{owner-keeps}

abbrev pub HasOwner : List Change → ℕ → ℕ → Type 0
HasOwner cs n e = (d : Change) × (slice_get cs n ≡ Some d) × (owner cs d ≡ Some e)

pub owner-some : (cs : List Change) (n e : ℕ) → Some e ≡ option_and_then (owner cs) (slice_get cs n) → HasOwner cs n e
owner-some cs n e by = go (slice_get cs n) refl
  where
    go : (o : Option Change) → slice_get cs n ≡ o → HasOwner cs n e
    go None is = absurd (none-some e (sym (by ∙ ap (option_and_then (owner cs)) is)))
    go (Some d) is = (d, is, sym (by ∙ ap (option_and_then (owner cs)) is))

pub keeps-at : (cs : List Change) (n e : ℕ) → Some e ≡ option_and_then (owner cs) (slice_get cs n) → (o : Change) → slice_get cs e ≡ Some o → is_keeping o ≡ true
keeps-at cs n e by o at_e =
    let d : HasOwner cs n e = owner-some cs n e by in
    let k : (r : Change) × (slice_get cs e ≡ Some r) × (is_keeping r ≡ true) = owner-keeps cs d.0 e d.2 in
    ap is_keeping (same_Some o k.0 (sym at_e ∙ k.1)) ∙ k.2

pub path-at-is : (table : List (Option (Vec ℕ Global))) (e : ℕ) (x : Option (Vec ℕ Global)) → e < length table → x ≡ get_or table e x → path_at table e ≡ path_in x
path-at-is table e x there is = ap (option_and_then path_in) (slice_get-get_or table e x there ∙ ap (λ y. Some y) (sym is))

some-and : {X : Type 0} (P : X → Type 0) (o : Option X) → IsSomeAnd o P → (x : X) × (o ≡ Some x) × P x
some-and P None h = absurd h
some-and P (Some x) h = (x, refl, h)

and-some : {X : Type 0} (P : X → Type 0) (o : Option X) (x : X) → o ≡ Some x → P x → IsSomeAnd o P
and-some P o x is h = subst (λ y. IsSomeAnd y P) (sym is) h

module _ (m : Mapping) (cs : List Change) (table : List (Option (Vec ℕ Global))) (n : ℕ) (found : FoundSoFar m cs table n) where
  none-before : (j e : ℕ) → j < n → IsUnplaced m cs j e → ⊥
  none-before j e less u =
      let c : (x : Change) × (slice_get cs j ≡ Some x) × ((owner cs x ≡ Some e) × IsSomeAnd (slice_get cs e) (λ o. (place : Path) → HasPlace m o x place → ⊥)) = some-and (λ x. (owner cs x ≡ Some e) × IsSomeAnd (slice_get cs e) (λ o. (place : Path) → HasPlace m o x place → ⊥)) (slice_get cs j) u in
      let o : (x : Change) × (slice_get cs e ≡ Some x) × ((place : Path) → HasPlace m x c.0 place → ⊥) = some-and (λ x. (place : Path) → HasPlace m x c.0 place → ⊥) (slice_get cs e) c.2.1 in
      let p : (x : Path) × (path_at table e ≡ Some x) × HasPlace m o.0 c.0 x = found j e c.0 o.0 less c.1 c.2.0 o.1 in
      o.2 p.0 p.2

  pub first-unplaced : (e : ℕ) (d o : Change) (place : Option Path) → slice_get cs n ≡ Some d → owner cs d ≡ Some e → slice_get cs e ≡ Some o → IsPlaceOf m o place → (IsSomeAnd place (HasPlace m o d) → ⊥) → IsFirstUnplaced m cs n e
  first-unplaced e d o place at_n by at_e of none = record {
    unplaced = and-some (λ c. (owner cs c ≡ Some e) × IsSomeAnd (slice_get cs e) (λ r. (p : Path) → HasPlace m r c p → ⊥)) (slice_get cs n) d at_n (by, and-some (λ r. (p : Path) → HasPlace m r d p → ⊥) (slice_get cs e) o at_e (λ p has. none (and-some (HasPlace m o d) place p ((of p).0 has.0) has)));
    first = none-before;
  }

  pub found-more : (after : List (Option (Vec ℕ Global))) (e : ℕ) (d o : Change) → slice_get cs n ≡ Some d → owner cs d ≡ Some e → slice_get cs e ≡ Some o → ((c : ℕ) (p : Path) → path_at table c ≡ Some p → path_at after c ≡ Some p) → IsSomeAnd (path_at after e) (HasPlace m o d) → FoundSoFar m cs after (n + 1)
  found-more after e d o at_n by at_e kept has i f c r less at_i by_f at_f =
      elim (cases_lt i n) [
        | inl before ↦ let p : (x : Path) × (path_at table f ≡ Some x) × HasPlace m r c x = found i f c r before at_i by_f at_f in (p.0, kept f p.0 p.1, p.2)
        | inr not_before ↦
            let here : i ≡ n = omega (arith, less, not_before) in
            let same_c : d ≡ c = same_Some d c (sym at_n ∙ ap (slice_get cs) (sym here) ∙ at_i) in
            let same_f : e ≡ f = same_Some e f (sym by ∙ ap (owner cs) same_c ∙ by_f) in
            let same_r : o ≡ r = same_Some o r (sym at_e ∙ ap (slice_get cs) same_f ∙ at_f) in
            let p : (x : Path) × (path_at after e ≡ Some x) × HasPlace m o d x = some-and (HasPlace m o d) (path_at after e) has in
            (p.0, ap (path_at after) (sym same_f) ∙ p.1, subst (λ y. HasPlace m y c p.0) same_r (subst (λ y. HasPlace m o y p.0) same_c p.2))
      ]

  pub none-found : option_and_then (owner cs) (slice_get cs n) ≡ None → FoundSoFar m cs table (n + 1)
  none-found none i f c r less at_i by_f at_f =
      elim (cases_lt i n) [
        | inl before ↦ found i f c r before at_i by_f at_f
        | inr not_before ↦
            let here : i ≡ n = omega (arith, less, not_before) in
            absurd (none-some f (sym none ∙ ap (λ k. option_and_then (owner cs) (slice_get cs k)) (sym here) ∙ ap (option_and_then (owner cs)) at_i ∙ by_f))
      ]

  pub all-found : length cs ≤ n → (k : ℕ) (d : Change) → k < length cs → FindsPlace m cs (places_in table) (get_or cs k d)
  all-found whole k d there = go (owner cs (get_or cs k d)) refl
    where
      at_owner : (e : ℕ) → owner cs (get_or cs k d) ≡ Some e → (o : Option Change) → slice_get cs e ≡ o → IfSome o (λ r. HasPlace m r (get_or cs k d) (places_in table e))
      at_owner e by None is = tt
      at_owner e by (Some r) is =
          let p : (x : Path) × (path_at table e ≡ Some x) × HasPlace m r (get_or cs k d) x = found k e (get_or cs k d) r (omega (arith, there, whole)) (slice_get-get_or cs k d there) by is in
          subst (HasPlace m r (get_or cs k d)) (sym (ap (λ o. unwrap_or o []) p.1)) p.2

      go : (o : Option ℕ) → owner cs (get_or cs k d) ≡ o → IfSome (owner cs (get_or cs k d)) (λ e. IfSome (slice_get cs e) (λ r. HasPlace m r (get_or cs k d) (places_in table e)))
      go None by = subst (λ o. IfSome o (λ e. IfSome (slice_get cs e) (λ r. HasPlace m r (get_or cs k d) (places_in table e)))) (sym by) tt
      go (Some e) by =
          subst (λ o. IfSome o (λ f. IfSome (slice_get cs f) (λ r. HasPlace m r (get_or cs k d) (places_in table f)))) (sym by) (at_owner e by (slice_get cs e) refl)
