-- Orders and tables of links.
--     Respects, respects_to, respects_from      what it says that an order keeps to a test, change by change
--     found-index                   where a number stands that is there
--     Leads                         links lead from one change to another
--     Carries                       a table of links says what a test says: each link is between changes that pass, and links lead from each to each that pass
--     respects-keeps                an order keeps to the test exactly if it keeps to the links
use Rattle.std.specs.Prelude.{◌≡◌, ◌<◌, ℕ, zero, suc, Bool, true, false, not, ◌||◌, cond, nat_eq, List, [], ◌∷◌, length, count_by, slice_get, slice_index, Option, Some, None, option_and_then, refl, ◌↔◌, IsTrue}
use Rattle.std.specs.List.{list_all}
use Rattle.std.proofs.Common.{ap, sym, ◌∙◌, arith, ◌+◌}
use Rattle.std.proofs.lemmas.Bool.{cases_Bool, or_cases, or_left, or_right, not_from_true, not_from_false, ltb-true, lt-ltb, false≢true}
use Rattle.std.proofs.lemmas.List.Sums.{sum_by-cons}
use Rattle.std.proofs.lemmas.Option.{none-some, slice_get_within}
use mathlib.Core.Logic.{inl, inr}
use Rattle.edit_change.specs.Nesting.{is_dropped, Numbered}
use Rattle.edit_change.specs.declared.change.Change.{Change}
use Rattle.edit_steps.specs.Schedule.{ListsEachOnce, respects, index_in, stands_before}
use Rattle.edit_steps.specs.inner.Followers.{link, steps, AreIndices, Keeps}
use Rattle.edit_steps.specs.inner.Waits.{one_if}
use Rattle.edit_steps.proofs.Undropped.{all-undropped, all_undropped_from, count-undropped}

-- ---- an order that keeps to a test
pub record Respects (first : Numbered → Numbered → Bool) (cs : List Change) (order : List ℕ) : Type 0 where
  pub at : (n m : ℕ) (c d : Change) → slice_get cs n ≡ Some c → is_dropped cs c ≡ false → slice_get cs m ≡ Some d → is_dropped cs d ≡ false → first (n, c) (m, d) ≡ true → index_in order n < index_in order m

module _ (first : Numbered → Numbered → Bool) (cs : List Change) (order : List ℕ) where
  abbrev row : Numbered → Numbered → Bool
  row c d = not (first c d) || stands_before order c.0 d.0

  pub respects_to : respects first cs order ≡ true → Respects first cs order
  respects_to h = record {
    at = λ n m c d is_c c_stays is_d d_stays comes.
        let one : row (n, c) (m, d) ≡ true = all-undropped (row (n, c)) cs (all-undropped (λ e. list_all (row e) _) cs h n c is_c c_stays) m d is_d d_stays in
        elim (or_cases (not (first (n, c) (m, d))) (stands_before order n m) one) [
          | inl never ↦ absurd (false≢true (sym (not_from_true (first (n, c) (m, d)) comes) ∙ never))
          | inr stands ↦ ltb-true (index_in order n) (index_in order m) stands
        ];
  }

  pub respects_from : Respects first cs order → respects first cs order ≡ true
  respects_from r = all_undropped_from (λ e. list_all (row e) _) cs (λ n c is_c c_stays. all_undropped_from (row (n, c)) cs (λ m d is_d d_stays.
      elim (cases_Bool (first (n, c) (m, d))) [
        | inl comes ↦ or_right (not (first (n, c) (m, d))) (stands_before order n m) (lt-ltb (index_in order n) (index_in order m) (r.at n m c d is_c c_stays is_d d_stays comes))
        | inr never ↦ or_left (not (first (n, c) (m, d))) (stands_before order n m) (not_from_false (first (n, c) (m, d)) never)
      ]))

-- ---- indices
missing-index : (order : List ℕ) (n : ℕ) → count_by (nat_eq n) order ≡ 0 → index_in order n ≡ length order
missing-index [] n h = refl
missing-index (x ∷ order) n h =
    let parts = sum_by-cons (λ y. one_if (nat_eq n y)) x order in
    elim (cases_Bool (nat_eq n x)) [
      | inl here ↦ let one = ap one_if here in absurd (omega (arith, h, parts, one))
      | inr other ↦
          let none = ap one_if other in
          let rest = missing-index order n (omega (arith, h, parts, none)) in
          ap (λ b. cond (not b) (1 + index_in order n) 0) other ∙ omega (arith, rest)
    ]

pub found-index : (order : List ℕ) (n : ℕ) → 0 < count_by (nat_eq n) order → index_in order n < length order
found-index [] n h = absurd (omega (arith, h))
found-index (x ∷ order) n h =
    let parts = sum_by-cons (λ y. one_if (nat_eq n y)) x order in
    elim (cases_Bool (nat_eq n x)) [
      | inl here ↦ let first : index_in (x ∷ order) n ≡ 0 = ap (λ b. cond (not b) (1 + index_in order n) 0) here in omega (arith, first)
      | inr other ↦
          let none = ap one_if other in
          let rest = found-index order n (omega (arith, h, parts, none)) in
          let next : index_in (x ∷ order) n ≡ 1 + index_in order n = ap (λ b. cond (not b) (1 + index_in order n) 0) other in
          omega (arith, rest, next)
    ]

-- what is dropped stands nowhere, so all else stands before it
before-dropped : (cs : List Change) (order : List ℕ) → ListsEachOnce cs order → (n m : ℕ) (c d : Change) → slice_get cs n ≡ Some c → is_dropped cs c ≡ false → slice_get cs m ≡ Some d → is_dropped cs d ≡ true → index_in order n < index_in order m
before-dropped cs order each n m c d is_c c_stays is_d d_gone =
    let one : count_by (nat_eq n) order ≡ 1 = each n ∙ count-undropped cs n c is_c ∙ ap (λ b. one_if (not b)) c_stays in
    let none : count_by (nat_eq m) order ≡ 0 = each m ∙ count-undropped cs m d is_d ∙ ap (λ b. one_if (not b)) d_gone in
    omega (arith, found-index order n (omega (arith, one)), missing-index order m none)

-- ---- links
abbrev pub Leads : List (Option ℕ) → ℕ → ℕ → Type 0
Leads table n m = (k : ℕ) × (steps table (suc k) n ≡ Some m)

pub leads_on : (table : List (Option ℕ)) (n k m : ℕ) → link table n ≡ Some k → Leads table k m → Leads table n m
leads_on table n k m is on = (suc on.0, ap (λ o. option_and_then (steps table (suc on.0)) o) is ∙ on.1)

pub one_link : (table : List (Option ℕ)) (n m : ℕ) → link table n ≡ Some m → Leads table n m
one_link table n m is = (0, ap (λ o. option_and_then (steps table 0) o) is)

-- the first link of several
pub first_step : (table : List (Option ℕ)) (n k m : ℕ) → steps table (suc k) n ≡ Some m → (i : ℕ) × (link table n ≡ Some i) × (steps table k i ≡ Some m)
first_step table n k m h = go (link table n) refl h
  where
    go : (o : Option ℕ) → link table n ≡ o → option_and_then (steps table k) o ≡ Some m → (i : ℕ) × (link table n ≡ Some i) × (steps table k i ≡ Some m)
    go None is e = absurd (none-some m e)
    go (Some i) is e = (i, is, e)

pub record Carries (first : Numbered → Numbered → Bool) (cs : List Change) (table : List (Option ℕ)) : Type 0 where
  pub sound : (n m : ℕ) → link table n ≡ Some m → (c : Change) × (d : Change) × (slice_get cs n ≡ Some c) × (is_dropped cs c ≡ false) × (slice_get cs m ≡ Some d) × (first (n, c) (m, d) ≡ true)
  pub covers : (n m : ℕ) (c d : Change) → slice_get cs n ≡ Some c → is_dropped cs c ≡ false → slice_get cs m ≡ Some d → is_dropped cs d ≡ false → first (n, c) (m, d) ≡ true → Leads table n m

keeps-along : (indices : List ℕ) (table : List (Option ℕ)) → Keeps indices table → (k n m : ℕ) → steps table (suc k) n ≡ Some m → slice_index indices n < slice_index indices m
keeps-along indices table keeps zero n m h =
    let one = first_step table n 0 m h in
    keeps n m (one.1 ∙ one.2)
keeps-along indices table keeps (suc k) n m h =
    let one = first_step table n (suc k) m h in
    omega (arith, keeps n one.0 one.1, keeps-along indices table keeps k one.0 m one.2)

pub respects-keeps : (first : Numbered → Numbered → Bool) (cs : List Change) (order indices : List ℕ) (table : List (Option ℕ)) → ListsEachOnce cs order → AreIndices order (length cs) indices → Carries first cs table → IsTrue (respects first cs order) ↔ Keeps indices table
respects-keeps first cs order indices table each are carries = (to, from)
  where
    to : respects first cs order ≡ true → Keeps indices table
    to h n m is =
        let ends = carries.sound n m is in
        let n_at = are.at n (slice_get_within cs n ends.0 ends.2) in
        let m_at = are.at m (slice_get_within cs m ends.1 ends.4) in
        let less : index_in order n < index_in order m = elim (cases_Bool (is_dropped cs ends.1)) [
          | inl gone ↦ before-dropped cs order each n m ends.0 ends.1 ends.2 ends.3 ends.4 gone
          | inr stays ↦ (respects_to first cs order h).at n m ends.0 ends.1 ends.2 ends.3 ends.4 stays ends.5
        ] in
        omega (arith, less, n_at, m_at)

    from : Keeps indices table → respects first cs order ≡ true
    from keeps = respects_from first cs order (record {
      at = λ n m c d is_c c_stays is_d d_stays comes.
          let on = carries.covers n m c d is_c c_stays is_d d_stays comes in
          omega (arith, keeps-along indices table keeps on.0 n m on.1, are.at n (slice_get_within cs n c is_c), are.at m (slice_get_within cs m d is_d));
    })

pub links-below : (first : Numbered → Numbered → Bool) (cs : List Change) (table : List (Option ℕ)) → Carries first cs table → (n m : ℕ) → link table n ≡ Some m → m < length cs
links-below first cs table carries n m is = let ends = carries.sound n m is in slice_get_within cs m ends.1 ends.4
