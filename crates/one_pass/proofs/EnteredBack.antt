-- All changes in document order, entered into a table from the last to the first: an owner comes after what it owns.
--     EnteredFrom                   a fact holds of those from a place on
--     begins, entered, ends         before the first; one change more; once all are entered
--     number-there                  at each place stands the number of a change
--     count-all                     what they add to a sum
use Rattle.std.specs.Prelude.{◌≡◌, ◌≢◌, ℕ, zero, suc, ◌+◌, ◌<◌, ◌≤◌, List, [], ◌∷◌, drop, length, get_or, slice_get, sum_by, All, Some, Contains, refl}
use Rattle.std.proofs.Common.{ap, sym, subst, ◌∙◌, arith}
use Rattle.std.proofs.lemmas.Bool.{cases_lt, cases_eq}
use Rattle.std.proofs.lemmas.List.Sorted.{Contains-permutation, All-permutation, sum_by-IsPermutation}
use Rattle.std.proofs.lemmas.List.Elements.{All-get_or}
use Rattle.std.proofs.lemmas.Option.{slice_get_within}
use mathlib.Core.Logic.{inl, inr}
use Rattle.cst_core.specs.Path.{counted_from}
use Rattle.cst_core.specs.Element.{Element}
use Rattle.edit_change.specs.Fits.{Fits}
use Rattle.edit_change.specs.Nesting.{owner}
use Rattle.edit_change.specs.inner.DocumentOrder.{IsDocumentOrder}
use Rattle.edit_change.specs.declared.change.Change.{Change}
use Rattle.edit_change.proofs.OwnersFirst.{owner-first}

abbrev pub EnteredFrom : (ℕ → Type 0) → List ℕ → ℕ → Type 0
EnteredFrom holds order k = (j : ℕ) → k ≤ j → j < length order → holds (get_or order j 0)

pub begins : (holds : ℕ → Type 0) (order : List ℕ) (k : ℕ) → length order ≤ k → EnteredFrom holds order k
begins holds order k past = λ j l m. absurd (omega (arith, past, l, m))

counted-at : (a n c d : ℕ) → a ≤ c → c < a + n → Contains (counted_from a n) c
counted-at a zero c d low high = absurd (omega (arith, low, high))
counted-at a (suc n) c d low high =
    elim (cases_eq a c) [
      | inl same ↦ (0, omega arith, same)
      | inr other ↦
          let there = counted-at (suc a) n c d (omega (arith, low, other)) (omega (arith, high)) in
          (suc there.0, omega (arith, there.1), there.2)
    ]

module _ (cs : List Change) (order : List ℕ) (are : IsDocumentOrder cs order) where
  -- it stands in the order
  place-of : (c : ℕ) → c < length cs → (j : ℕ) × (j < length order) × (get_or order j 0 ≡ c)
  place-of c l =
      let there = Contains-permutation (counted_from 0 (length cs)) order c are.each_once (counted-at 0 (length cs) c 0 (omega arith) (omega (arith, l))) in
      (there.0, there.1, at-default order there.0 c 0 there.1 ∙ there.2)
    where
      at-default : (xs : List ℕ) (i a d : ℕ) → i < length xs → get_or xs i d ≡ get_or xs i a
      at-default [] i a d m = absurd (omega (arith, m))
      at-default (x ∷ xs) zero a d m = refl
      at-default (x ∷ xs) (suc i) a d m = at-default xs i a d (omega (arith, m))

  -- what holds of all that a change owns makes it hold of the change
  pub entered : (root : Element) → All (Fits root) cs → (holds after : ℕ → Type 0) (k o : ℕ) → k < length order → get_or order k 0 ≡ o → EnteredFrom holds order (suc k) → (((n : ℕ) (d : Change) → slice_get cs n ≡ Some d → owner cs d ≡ Some o → holds n) → after o) → ((c : ℕ) → c ≢ o → holds c → after c) → EnteredFrom after order k
  entered root fit holds after k o within stands a put keeps = λ j l m. elim (cases_lt k j) [
    | inl later ↦ either (get_or order j 0) (a j later m)
    | inr same ↦ subst after (sym stands ∙ ap (λ i. get_or order i 0) (let at : k ≡ j = omega (arith, l, same) in at)) here
  ]
    where
      here : after o
      here = put (λ n d is by.
          let place = place-of n (slice_get_within cs n d is) in
          subst holds place.2 (a place.0 (owner-first cs root fit order place.0 k n o d are place.1 within place.2 stands is by) place.1))

      either : (c : ℕ) → holds c → after c
      either c h = elim (cases_eq c o) [ inl same ↦ subst after (sym same) here | inr other ↦ keeps c other h ]

  pub ends : (holds : ℕ → Type 0) (k : ℕ) → k ≤ 0 → EnteredFrom holds order k → (c : ℕ) → c < length cs → holds c
  ends holds k none a c there =
      let place = place-of c there in
      subst holds place.2 (a place.0 (omega (arith, none)) place.1)

  pub number-there : (k : ℕ) → k < length order → get_or order k 0 < length cs
  number-there k l = All-get_or (λ c. c < length cs) order k 0 l (All-permutation (λ c. c < length cs) (counted_from 0 (length cs)) order are.each_once (λ i d m. omega (arith, counted-below 0 (length cs) i d m)))
    where
      counted-below : (a n i d : ℕ) → i < length (counted_from a n) → get_or (counted_from a n) i d < a + n
      counted-below a zero i d m = absurd (omega (arith, m))
      counted-below a (suc n) zero d m = omega arith
      counted-below a (suc n) (suc i) d m = omega (arith, counted-below (suc a) n i d (omega (arith, m)))

  pub count-all : (f : ℕ → ℕ) (k : ℕ) → k ≤ 0 → sum_by f (drop k order) ≡ sum_by f (counted_from 0 (length cs))
  count-all f k none =
      let first : k ≡ 0 = omega (arith, none) in
      ap (λ i. sum_by f (drop i order)) first ∙ sum_by-IsPermutation f (counted_from 0 (length cs)) order are.each_once
