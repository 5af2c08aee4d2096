-- Steps that are entered.
--     entered-as                    with another name for the steps
--     entered-before                one that is there already
--     entered-latest                the latest steps, after one was entered
--     same-among                    the same after the list of them got longer
use Rattle.std.specs.Prelude.{◌≡◌, ℕ, ◌+◌, ◌<◌, true, ◌&&◌, cond, nat_eq, List, length, slice_get, slice_set, Option, Some, unwrap_or, is_some, if◌then◌else◌}
use Rattle.std.specs.Option.{option_flatten}
use Rattle.std.proofs.Common.{ap, ap₂, sym, subst, ◌∙◌, arith}
use Rattle.std.proofs.lemmas.Bool.{cases_Bool, and_parts, eqb-true, eq-eqb}
use Rattle.std.proofs.lemmas.Option.{same_Some}
use mathlib.Core.Logic.{inl, inr}
use Rattle.path_table.proofs.PathTables.{value-set}
use Rattle.path_table.specs.inner.Steps.{Steps, step, latest_from, IsEntered, AreAmong}

pub entered-as : {before after again : Steps} {n i m : ℕ} → again ≡ after → IsEntered before after n i m → IsEntered before again n i m
entered-as {before} {after} {again} {n} {i} {m} is entered = subst (λ s. IsEntered before s n i m) (sym is) entered

pub entered-before : (s : Steps) (n i m : ℕ) → step s n i ≡ Some m → IsEntered s s n i m
entered-before s n i m is = record {
  made = sym (ap (λ o. unwrap_or o (length s + 1)) is);
  steps = here;
  long = sym (ap (λ o. length s + (if is_some o then 0 else 1)) is ∙ (omega arith));
}
  where
    here : (a j : ℕ) → step s a j ≡ cond (nat_eq n a && nat_eq i j) (Some m) (step s a j)
    here a j =
        elim (cases_Bool (nat_eq n a && nat_eq i j)) [
          | inl at ↦ (let parts = and_parts (nat_eq n a) (nat_eq i j) at in sym (ap (λ b. step s b j) (eqb-true n a parts.0)) ∙ sym (ap (step s n) (eqb-true i j parts.1)) ∙ is ∙ sym (ap (λ b. cond b (Some m) (step s a j)) at))
          | inr other ↦ sym (ap (λ b. cond b (Some m) (step s a j)) other)
        ]

pub entered-latest : (before after : Steps) (n i m : ℕ) (latest : List (Option (ℕ × ℕ))) → n < length latest → IsEntered before after n i m → AreAmong before latest → AreAmong after (slice_set latest n (Some (i, m)))
entered-latest before after n i m latest within made among a j k h =
    let now : cond (nat_eq n a) (Some (i, m)) (option_flatten (slice_get latest a)) ≡ Some (j, k) = sym (value-set latest n a (i, m) within) ∙ h in
    elim (cases_Bool (nat_eq n a)) [
      | inl here ↦
          let same : (i, m) ≡ (j, k) = same_Some (i, m) (j, k) (sym (ap (λ b. cond b (Some (i, m)) (option_flatten (slice_get latest a))) here) ∙ now) in
          let at : (nat_eq n a && nat_eq i j) ≡ true = ap₂ (λ x y. x && y) here (eq-eqb i j (ap (λ q. q.0) same)) in
          made.steps a j ∙ ap (λ b. cond b (Some m) (step before a j)) at ∙ ap (λ q. Some q.1) same
      | inr other ↦
          let was : step before a j ≡ Some k = among a j k (sym (ap (λ b. cond b (Some (i, m)) (option_flatten (slice_get latest a))) other) ∙ now) in
          made.steps a j ∙ ap (λ b. cond (b && nat_eq i j) (Some m) (step before a j)) other ∙ was
    ]

pub same-among : (s : Steps) (latest more : List (Option (ℕ × ℕ))) → ((n : ℕ) → latest_from more n ≡ latest_from latest n) → AreAmong s latest → AreAmong s more
same-among s latest more same among n i m h = among n i m (sym (same n) ∙ h)
