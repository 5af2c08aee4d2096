use Rattle.std.proofs.Common.{◌≡◌, ◌<◌, ◌+◌, ◌∙◌, ℕ, length, None, Some, IsSomeAnd, refl, sym, ap, subst, arith}
use Rattle.std.proofs.lemmas.Bool.{false≢true}
use Rattle.std.proofs.lemmas.List.{length-map}
use Rattle.edit_map.specs.Mapping.{path_in}
use Rattle.edit_plan.specs.inner.PlaceTables.{IsPlaceOf, IsPlaced, FoundSoFar}
use Rattle.edit_change.specs.Places.{HasPlace}
use Rattle.edit_change.specs.inner.Fate.{fate, owner_in}
use Rattle.edit_change.specs.inner.OwnerPlaces.{owner_at}
use Rattle.edit_change.specs.declared.fate.Fate.{Fate}
use Rattle.edit_change.specs.declared.fate.Fate.TheVariants.{Independent, Dropped, Owned}
use Rattle.edit_change.proofs.MovedAims.{change-at, owner-is, owner-at-number, any-owner-there}
use Rattle.edit_plan.proofs.PlacesOfOwners.{keeps-at, path-at-is, first-unplaced, found-more, none-found, all-found}
use Rattle.edit_plan.proofs.places.places.Goals as goal
use Rattle.edit_plan.proofs.places.places.Goals.{in-Owned+in_ok-find_place+else-not-has_place, in_default}

-- what is owned by none has no owner
not-owned : (f : Fate) → ((o : ℕ) → f ≡ Owned o → ⊥) → owner_in f ≡ None
not-owned Independent other = refl
not-owned Dropped other = refl
not-owned (Owned o) other = absurd (other o refl)

pub find_place-requires-clause-keeps : goal.find_place-requires-clause-keeps
find_place-requires-clause-keeps c =
    let by : Some c.in-Owned.owner ≡ owner_at c.args.changes.now c.loop-number.number = sym (ap owner_in c.in-Owned.is) ∙ owner-at-number c.args.changes.now c.args.fates.now c.loop-number.number _ c.requires c.loop-number-test.true in
    keeps-at c.args.changes.now c.loop-number.number c.in-Owned.owner by

pub find_place-requires-clause-there : goal.find_place-requires-clause-there
find_place-requires-clause-there c =
    let by : Some c.in-Owned.owner ≡ owner_at c.args.changes.now c.loop-number.number = sym (ap owner_in c.in-Owned.is) ∙ owner-at-number c.args.changes.now c.args.fates.now c.loop-number.number _ c.requires c.loop-number-test.true in
    any-owner-there c.args.changes.now c.loop-number.number (Some c.in-Owned.owner) by

pub bounds-changes-owner : goal.bounds-changes-owner
bounds-changes-owner c =
    let cs = c.args.changes.now in
    let n = c.loop-number.number in
    let e = c.in-Owned.owner in
    let by : Some e ≡ owner_at cs n = sym (ap owner_in c.in-Owned.is) ∙ owner-at-number cs c.args.fates.now n _ c.requires c.loop-number-test.true in
    let there : e < length cs = any-owner-there cs n (Some e) by in
    there

pub offset_bounds-changes-owner : goal.offset_bounds-changes-owner
offset_bounds-changes-owner c =
    let cs = c.args.changes.now in
    let n = c.loop-number.number in
    let e = c.in-Owned.owner in
    let by : Some e ≡ owner_at cs n = sym (ap owner_in c.in-Owned.is) ∙ owner-at-number cs c.args.fates.now n _ c.requires c.loop-number-test.true in
    let there : e < length cs = any-owner-there cs n (Some e) by in
    omega (arith, there, c.well_formed)

pub index-requires : goal.index-requires
index-requires c =
    let cs = c.args.changes.now in
    let n = c.loop-number.number in
    let e = c.in-Owned.owner in
    let by : Some e ≡ owner_at cs n = sym (ap owner_in c.in-Owned.is) ∙ owner-at-number cs c.args.fates.now n _ c.requires c.loop-number-test.true in
    let there : e < length cs = any-owner-there cs n (Some e) by in
    omega (arith, there, c.in_ok-find_place.ensures.long, c.find_place.new.places.ok.0)

pub returns-then-not-has_place-clause-refused : goal.returns-then-not-has_place-clause-refused
returns-then-not-has_place-clause-refused c =
    let cs = c.args.changes.now in
    let m = c.args.mapping.now in
    let n = c.loop-number.number in
    let e = c.in-Owned.owner in
    let by : Some e ≡ owner_at cs n = sym (ap owner_in c.in-Owned.is) ∙ owner-at-number cs c.args.fates.now n _ c.requires c.loop-number-test.true in
    let there : e < length cs = any-owner-there cs n (Some e) by in
    let d = c.index-changes-number.result in
    let o = c.index-changes-owner.result in
    let at_n = change-at cs n d c.loop-number-test.true c.index-changes-number.is in
    let at_e = change-at cs e o there c.index-changes-owner.is in
    let place = path-at-is c.find_place.new.places.items e c.index.result.now (subst (λ k. e < k) (sym c.in_ok-find_place.ensures.long) there) c.index.ensures in
    let of = subst (IsPlaceOf m o) place (c.in_ok-find_place.ensures.here o at_e) in
    first-unplaced m cs c.loop-number.places.items n c.loop-number.invariant.found e d o (path_in c.index.result.now) at_n (owner-is cs n d (Some e) at_n by) at_e of (λ has. false≢true (sym c.if-not-has_place.true ∙ (c.has_place.ensures m of).1 has))

pub loop-number-preserved : goal.loop-number-preserved
loop-number-preserved c =
    let cs = c.args.changes.now in
    let m = c.args.mapping.now in
    let n = c.loop-number.number in
    let table = c.loop-number.places.items in
    elim c.match-fates-number.branch [
      | in-Owned+in_ok-find_place+else-not-has_place w ↦
          let e = w.in-Owned.owner in
          let by : Some e ≡ owner_at cs n = sym (ap owner_in w.in-Owned.is) ∙ owner-at-number cs c.args.fates.now n _ c.requires c.loop-number-test.true in
          let there : e < length cs = any-owner-there cs n (Some e) by in
          let d = w.index-changes-number.result in
          let o = w.index-changes-owner.result in
          let after = w.find_place.new.places.items in
          let at_n = change-at cs n d c.loop-number-test.true w.index-changes-number.is in
          let at_e = change-at cs e o there w.index-changes-owner.is in
          let place = path-at-is after e w.index.result.now (subst (λ k. e < k) (sym w.in_ok-find_place.ensures.long) there) w.index.ensures in
          let of = subst (IsPlaceOf m o) place (w.in_ok-find_place.ensures.here o at_e) in
          let has = subst (λ x. IsSomeAnd x (HasPlace m o d)) (sym place) ((w.has_place.ensures m of).0 w.if-not-has_place.false) in
          record {
            long = ap (λ v. length v.items) w.places-is ∙ w.in_ok-find_place.ensures.long;
            placed = subst (λ v. IsPlaced m cs v.items) (sym w.places-is) w.in_ok-find_place.ensures.placed;
            found = subst (λ v. FoundSoFar m cs v.items (n + 1)) (sym w.places-is) (found-more m cs table n c.loop-number.invariant.found after e d o at_n (owner-is cs n d (Some e) at_n by) at_e w.in_ok-find_place.ensures.kept has);
          }
      | in_default w ↦ record {
        long = ap (λ v. length v.items) w.places-is ∙ c.loop-number.invariant.long;
        placed = subst (λ v. IsPlaced m cs v.items) (sym w.places-is) c.loop-number.invariant.placed;
        found = subst (λ v. FoundSoFar m cs v.items (n + 1)) (sym w.places-is) (none-found m cs table n c.loop-number.invariant.found (sym (owner-at-number cs c.args.fates.now n _ c.requires c.loop-number-test.true) ∙ not-owned _ w.in_default.not-Owned));
      }
    ]

pub returns-clause-placed : goal.returns-clause-placed
returns-clause-placed c = all-found c.args.mapping.now c.args.changes.now c.loop-number.places.items c.loop-number.number c.loop-number.invariant.found c.loop-number-test.false

pub bounds-fates-number : goal.bounds-fates-number
bounds-fates-number c =
    let cs = c.args.changes.now in
    subst (λ k. c.loop-number.number < k) (sym (ap length c.requires ∙ length-map cs (fate cs))) c.loop-number-test.true
