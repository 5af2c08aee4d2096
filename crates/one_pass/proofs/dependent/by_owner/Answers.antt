use Rattle.std.proofs.Common.{◌≡◌, ◌+◌, ◌<◌, ◌∙◌, ℕ, [], ◌∷◌, ◌++◌, map, length, Some, arith, ap, ap₂, sym, subst}
use Rattle.std.specs.Prelude.{List, Vec, get_or}
use Rattle.std.specs.Global.{Global}
use Rattle.std.proofs.Math.ListN.{set, length-set}
use Rattle.cst_core.specs.Path.{Path}
use Rattle.edit_change.specs.Nesting.{owner}
use Rattle.edit_change.specs.StagedChange.{staged_aim}
use Rattle.edit_change.specs.declared.change.Change.{Change}
use Rattle.one_pass.specs.declared.dependent.Dependent.{Dependent}
use Rattle.std.proofs.lemmas.List.{length-map, map-append}
use Rattle.edit_change.specs.inner.Aimed.{aims_of, numbered}
use Rattle.edit_change.specs.inner.Fate.{fate, owner_in}
use Rattle.edit_change.specs.inner.OwnerPlaces.{places_in, owner_at}
use Rattle.edit_change.proofs.Independents.{is_independent_in, one-more, passed-at, independents-whole, independent-at}
use Rattle.edit_change.proofs.MovedAims.{change-at, owner-is, owner-at-number, any-owner-there}
use Rattle.one_pass.specs.inner.OwnerTables.{moved_dependent, dependents_in}
use Rattle.one_pass.proofs.Dependents.{entered-here, entered-elsewhere, dependents-to, dependents-whole, none-at, one-entered}
use Rattle.one_pass.proofs.EmptyLists.{empty-at}
use Rattle.one_pass.proofs.dependent.by_owner.Goals as goal
use Rattle.one_pass.proofs.dependent.by_owner.Goals.{in-Independent+in_ok-push-in-Independent, in-Dropped, in-Owned+in_ok-path-in-Owned+in_ok-push-in-Owned}

one-owned : (cs : List Change) (places : ℕ → Path) (n : ℕ) (d : Change) (o : ℕ) (table : List (Vec Dependent Global)) (v w : Vec Dependent Global) (x : Dependent) → w.items ≡ v.items ++ x ∷ [] → n < length cs → d ≡ get_or cs n d → o < length table → v ≡ get_or table o v → owner cs d ≡ Some o → moved_dependent x ≡ (n, staged_aim cs places d) → ((c : ℕ) → dependents_in table c ≡ dependents-to cs places n c) → (c : ℕ) → dependents_in (set table o w) c ≡ dependents-to cs places (n + 1) c
one-owned cs places n d o table v w x pushed l is fits at by moves before =
    one-entered cs places n d l is o x table (set table o w) by moves (entered-here table o v w x fits at pushed) (entered-elsewhere table o w) before

pub staged_path-requires-clause-owner : goal.staged_path-requires-clause-owner
staged_path-requires-clause-owner c =
    sym (ap owner_in c.in-Owned.is) ∙ owner-at-number c.args.changes.now c.args.fates.now c.loop-number.number _ c.requires.fates c.loop-number-test.true

pub index_mut-requires : goal.index_mut-requires
index_mut-requires c =
    let cs = c.args.changes.now in
    let n = c.loop-number.number in
    let o = c.in-Owned.owner in
    let by : Some o ≡ owner_at cs n = sym (ap owner_in c.in-Owned.is) ∙ owner-at-number cs c.args.fates.now n _ c.requires.fates c.loop-number-test.true in
    let there : o < length cs = any-owner-there cs n (Some o) by in
    omega (arith, there, c.loop-number.invariant.long, c.loop-number.owned.ok.0)

pub loop-number-init : goal.loop-number-init
loop-number-init c = record {
  free = ap aims_of c.in_ok-free.ensures.items;
  long = c.in_ok-owned.ensures.size;
  entered = empty-at (λ v. map moved_dependent v.items) (λ v none. ap (map moved_dependent) none) c.in_ok-owned.owned.items c.in_ok-owned.ensures.empty;
}

pub loop-number-preserved : goal.loop-number-preserved
loop-number-preserved c =
    let cs = c.args.changes.now in
    let fates = c.args.fates.now in
    let n = c.loop-number.number in
    let places = places_in c.args.places.now in
    let d = c.index-changes-number.result in
    let l = c.loop-number-test.true in
    let at = change-at cs n d l c.index-changes-number.is in
    let before = c.loop-number.invariant in
    let table = c.loop-number.owned.items in
    elim c.match-fates-number.branch [
      | in-Independent+in_ok-push-in-Independent w ↦
          let free = sym (independent-at cs fates n d _ c.requires.fates at) ∙ ap is_independent_in w.in-Independent.is in
          let none = sym (owner-at-number cs fates n _ c.requires.fates l) ∙ ap owner_in w.in-Independent.is in
          record {
            free = ap (λ v. aims_of v.items) w.free-is ∙ ap aims_of w.in_ok-push-in-Independent.ensures.items ∙ map-append numbered c.loop-number.free.items (w.numbered_aim.result ∷ []) ∙ ap₂ (λ ns m. ns ++ m ∷ []) before.free w.numbered_aim.ensures ∙ sym (one-more cs n d l c.index-changes-number.is free);
            long = ap (λ t. length t.items) w.owned-is ∙ before.long;
            entered = subst (λ t. (k : ℕ) → dependents_in t.items k ≡ dependents-to cs places (n + 1) k) (sym w.owned-is) (none-at cs places n table l none before.entered);
          }
      | in-Dropped w ↦
          let none = sym (owner-at-number cs fates n _ c.requires.fates l) ∙ ap owner_in w.in-Dropped.is in
          record {
            free = ap (λ v. aims_of v.items) w.free-is ∙ before.free ∙ sym (passed-at cs fates n _ c.requires.fates l (ap is_independent_in w.in-Dropped.is));
            long = ap (λ t. length t.items) w.owned-is ∙ before.long;
            entered = subst (λ t. (k : ℕ) → dependents_in t.items k ≡ dependents-to cs places (n + 1) k) (sym w.owned-is) (none-at cs places n table l none before.entered);
          }
      | in-Owned+in_ok-path-in-Owned+in_ok-push-in-Owned w ↦
          let o = w.in-Owned.owner in
          let by : Some o ≡ owner_at cs n = sym (ap owner_in w.in-Owned.is) ∙ owner-at-number cs fates n _ c.requires.fates l in
          let there : o < length cs = any-owner-there cs n (Some o) by in
          let fits : o < length table = omega (arith, there, before.long) in
          record {
            free = ap (λ v. aims_of v.items) w.free-is ∙ before.free ∙ sym (passed-at cs fates n _ c.requires.fates l (ap is_independent_in w.in-Owned.is));
            long = ap (λ t. length t.items) w.owned-is ∙ length-set table o _ ∙ before.long;
            entered = subst (λ t. (k : ℕ) → dependents_in t.items k ≡ dependents-to cs places (n + 1) k) (sym w.owned-is) (one-owned cs places n d o table w.index_mut.result.now _ _ w.in_ok-push-in-Owned.ensures.items l c.index-changes-number.is fits w.index_mut.ensures.value (owner-is cs n d (Some o) at by) (ap (λ a. (n, a)) (w.in_ok-path-in-Owned.ensures d at)) before.entered);
          }
    ]

pub returns-clause-free : goal.returns-clause-free
returns-clause-free c = c.loop-number.invariant.free ∙ independents-whole c.args.changes.now c.loop-number.number c.loop-number-test.false

pub returns-clause-owned : goal.returns-clause-owned
returns-clause-owned c = λ k. c.loop-number.invariant.entered k ∙ dependents-whole c.args.changes.now (places_in c.args.places.now) c.loop-number.number k c.loop-number-test.false

pub bounds-fates-number : goal.bounds-fates-number
bounds-fates-number c =
    let cs = c.args.changes.now in
    subst (λ k. c.loop-number.number < k) (sym (ap length c.requires.fates ∙ length-map cs (fate cs))) c.loop-number-test.true
