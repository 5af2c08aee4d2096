use Rattle.std.specs.Prelude.{ℕ, zero, suc, ◌<◌, ◌≢◌, true, false, List, [], ◌∷◌, length, slice_get, slice_set, Option, Some, None, Vec, refl}
use Rattle.std.specs.Option.{is_some}
use Rattle.std.specs.Global.{Global}
use Rattle.std.proofs.Common.{◌≡◌, ap, sym, subst, ◌∙◌, rules, arith}
use Rattle.std.proofs.lemmas.Bool.{cases_eq, false≢true}
use Rattle.std.proofs.lemmas.Option.{same_Some, none-some}
use mathlib.Core.Logic.{inl, inr}
use Rattle.edit_map.specs.Mapping.{path_in}
use Rattle.edit_change.specs.Nesting.{is_keeping}
use Rattle.edit_change.specs.inner.OwnerPlaces.{path_at}
use Rattle.edit_change.proofs.MovedAims.{change-at}
use Rattle.edit_plan.specs.inner.PlaceTables.{IsPlaceOf}
use Rattle.edit_plan.proofs.PlacesOfOwners.{path-at-is}
use Rattle.edit_plan.proofs.places.find_place.Goals as goal

-- a table with a place for one more owner
set-here : (table : List (Option (Vec ℕ Global))) (e : ℕ) (x : Option (Vec ℕ Global)) → e < length table → path_at (slice_set table e x) e ≡ path_in x
set-here [] e x l = absurd (omega (arith, l))
set-here (y ∷ ys) zero x l = refl
set-here (y ∷ ys) (suc e) x l = set-here ys e x (omega (arith, l))

set-other : (table : List (Option (Vec ℕ Global))) (e n : ℕ) (x : Option (Vec ℕ Global)) → n ≢ e → path_at (slice_set table e x) n ≡ path_at table n
set-other [] e n x other = refl
set-other (y ∷ ys) zero zero x other = absurd (other refl)
set-other (y ∷ ys) zero (suc n) x other = refl
set-other (y ∷ ys) (suc e) zero x other = refl
set-other (y ∷ ys) (suc e) (suc n) x other = set-other ys e n x (λ same. other (ap suc same))

not-some : (o : Option (Vec ℕ Global)) → is_some o ≡ false → path_in o ≡ None
not-some None h = refl
not-some (Some v) h = absurd (false≢true (sym h))

pub unreachable-requires : goal.unreachable-requires
unreachable-requires c =
    let r = c.index-changes-owner.result in
    let keeps : is_keeping r ≡ true = c.requires.keeps r (change-at c.args.changes.now c.args.owner r c.requires.there c.index-changes-owner.is) in
    search rules

pub returns-clause-here : goal.returns-clause-here
returns-clause-here c = λ o at.
    let r = c.index-changes-owner.result in
    let m = c.args.mapping.now in
    let e = c.args.owner in
    let table = c.args.places.now.items in
    let of : IsPlaceOf m r (path_in c.filter.result) = search rules in
    let same = same_Some r o (sym (change-at c.args.changes.now e r c.requires.there c.index-changes-owner.is) ∙ at) in
    subst (IsPlaceOf m o) (sym (set-here table e c.filter.result (omega (arith, c.requires.there, c.requires.long)))) (subst (λ y. IsPlaceOf m y (path_in c.filter.result)) same of)

pub returns-clause-placed : goal.returns-clause-placed
returns-clause-placed c = λ n o p at at_p.
    let r = c.index-changes-owner.result in
    let m = c.args.mapping.now in
    let e = c.args.owner in
    let table = c.args.places.now.items in
    let of : IsPlaceOf m r (path_in c.filter.result) = search rules in
    elim (cases_eq n e) [
      | inl here ↦
          let same = same_Some r o (sym (change-at c.args.changes.now e r c.requires.there c.index-changes-owner.is) ∙ ap (slice_get c.args.changes.now) (sym here) ∙ at) in
          let is = sym (set-here table e c.filter.result (omega (arith, c.requires.there, c.requires.long))) ∙ ap (path_at (slice_set table e c.filter.result)) (sym here) ∙ at_p in
          subst (IsPlaceOf m o) is (subst (λ y. IsPlaceOf m y (path_in c.filter.result)) same of)
      | inr other ↦ c.requires.placed n o p at (sym (set-other table e n c.filter.result other) ∙ at_p)
    ]

pub returns-clause-kept : goal.returns-clause-kept
returns-clause-kept c = λ n p at.
    let e = c.args.owner in
    let table = c.args.places.now.items in
    elim (cases_eq n e) [
      | inl here ↦
          let none = path-at-is table e c.index.result.now (omega (arith, c.requires.there, c.requires.long)) c.index.ensures ∙ not-some c.index.result.now (sym c.is_some.ensures ∙ c.if-is_some.false) in
          absurd (none-some p (sym none ∙ ap (path_at table) (sym here) ∙ at))
      | inr other ↦ set-other table e n c.filter.result other ∙ at
    ]
