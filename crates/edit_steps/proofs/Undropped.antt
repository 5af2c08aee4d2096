-- What holds of all changes that are not dropped, by their numbers.
--     all-undropped, all_undropped_from     a test of all of them
--     count-undropped               how often a number is one of theirs
--     told-dropped, fate-at         whether a change is dropped, from its fate; from the fate with its number
use Rattle.std.specs.Prelude.{◌≡◌, ℕ, zero, suc, ◌+◌, ◌<◌, ◌≤◌, Bool, true, false, not, ◌&&◌, cond, nat_eq, List, [], ◌∷◌, filter, length, slice_get, count_by, map, Some, None, option_map, refl}
use Rattle.std.specs.List.{list_all, enumerate_from}
use Rattle.std.proofs.Common.{ap, sym, ◌∙◌, arith, get_or}
use Rattle.std.proofs.lemmas.Bool.{cases_Bool, and_parts, and_from, eq-eqb, ne_eqb}
use Rattle.std.proofs.lemmas.List.Sums.{sum_by-cons}
use Rattle.std.proofs.lemmas.Option.{none-some, same_Some, slice_get-map, get_or_from_slice_get}
use mathlib.Core.Logic.{inl, inr}
use Rattle.edit_change.specs.Nesting.{is_dropped, owner, Numbered, undropped}
use Rattle.edit_change.specs.inner.Fate.{fate, by_owner, is_dropped_in}
use Rattle.edit_change.specs.declared.change.Change.{Change}
use Rattle.edit_change.specs.declared.fate.Fate.{Fate}
use Rattle.edit_change.specs.declared.fate.Fate.TheVariants.{Dropped}
use Rattle.edit_steps.specs.inner.Waits.{one_if}

abbrev kept : (Change → Bool) → ℕ → List Change → List Numbered
kept drops k cs = filter (λ c. not (drops c.1)) (enumerate_from k cs)

kept-cons : (drops : Change → Bool) (k : ℕ) (c : Change) (cs : List Change) → drops c ≡ false → kept drops k (c ∷ cs) ≡ (k, c) ∷ kept drops (k + 1) cs
kept-cons drops k c cs h = ap (λ b. cond (not b) ((k, c) ∷ kept drops (k + 1) cs) (kept drops (k + 1) cs)) h

dropped-cons : (drops : Change → Bool) (k : ℕ) (c : Change) (cs : List Change) → drops c ≡ true → kept drops k (c ∷ cs) ≡ kept drops (k + 1) cs
dropped-cons drops k c cs h = ap (λ b. cond (not b) ((k, c) ∷ kept drops (k + 1) cs) (kept drops (k + 1) cs)) h

module _ (drops : Change → Bool) (p : Numbered → Bool) where
  all-kept : (k : ℕ) (cs : List Change) → list_all p (kept drops k cs) ≡ true → (n : ℕ) (c : Change) → slice_get cs n ≡ Some c → drops c ≡ false → p (k + n, c) ≡ true
  all-kept k [] a n c h f = absurd (none-some c h)
  all-kept k (d ∷ cs) a zero c h f =
      let same = same_Some d c h in
      let e : k + 0 ≡ k = omega arith in
      ap (λ m. p (m, c)) e ∙ ap (λ x. p (k, x)) (sym same) ∙ (and_parts (p (k, d)) _ (sym (ap (list_all p) (kept-cons drops k d cs (ap drops same ∙ f))) ∙ a)).0
  all-kept k (d ∷ cs) a (suc n) c h f =
      let e : k + suc n ≡ k + 1 + n = omega arith in
      let rest : list_all p (kept drops (k + 1) cs) ≡ true = elim (cases_Bool (drops d)) [
        | inl drop_it ↦ sym (ap (list_all p) (dropped-cons drops k d cs drop_it)) ∙ a
        | inr keep_it ↦ (and_parts (p (k, d)) _ (sym (ap (list_all p) (kept-cons drops k d cs keep_it)) ∙ a)).1
      ] in
      ap (λ m. p (m, c)) e ∙ all-kept (k + 1) cs rest n c h f

  all_kept_from : (k : ℕ) (cs : List Change) → ((n : ℕ) (c : Change) → slice_get cs n ≡ Some c → drops c ≡ false → p (k + n, c) ≡ true) → list_all p (kept drops k cs) ≡ true
  all_kept_from k [] h = refl
  all_kept_from k (d ∷ cs) h =
      let rest : list_all p (kept drops (k + 1) cs) ≡ true = all_kept_from (k + 1) cs (λ n c is f. let e : k + 1 + n ≡ k + suc n = omega arith in ap (λ m. p (m, c)) e ∙ h (suc n) c is f) in
      elim (cases_Bool (drops d)) [
        | inl drop_it ↦ ap (list_all p) (dropped-cons drops k d cs drop_it) ∙ rest
        | inr keep_it ↦
            let e : k ≡ k + 0 = omega arith in
            ap (list_all p) (kept-cons drops k d cs keep_it) ∙ and_from (p (k, d)) _ (ap (λ m. p (m, d)) e ∙ h 0 d refl keep_it) rest
      ]

pub all-undropped : (p : Numbered → Bool) (cs : List Change) → list_all p (undropped cs) ≡ true → (n : ℕ) (c : Change) → slice_get cs n ≡ Some c → is_dropped cs c ≡ false → p (n, c) ≡ true
all-undropped p cs a n c h f = let e : n ≡ 0 + n = omega arith in ap (λ m. p (m, c)) e ∙ all-kept (is_dropped cs) p 0 cs a n c h f

pub all_undropped_from : (p : Numbered → Bool) (cs : List Change) → ((n : ℕ) (c : Change) → slice_get cs n ≡ Some c → is_dropped cs c ≡ false → p (n, c) ≡ true) → list_all p (undropped cs) ≡ true
all_undropped_from p cs h = all_kept_from (is_dropped cs) p 0 cs (λ n c is f. let e : 0 + n ≡ n = omega arith in ap (λ m. p (m, c)) e ∙ h n c is f)

-- ---- how often a number is there
count-cons : (drops : Change → Bool) (n k : ℕ) (c : Change) (cs : List Change) → count_by (λ d. nat_eq n d.0) (kept drops k (c ∷ cs)) ≡ one_if (nat_eq n k && not (drops c)) + count_by (λ d. nat_eq n d.0) (kept drops (k + 1) cs)
count-cons drops n k c cs =
    elim (cases_Bool (drops c)) [
      | inl drop_it ↦
          let none : one_if (nat_eq n k && not (drops c)) ≡ 0 = ap (λ b. one_if (nat_eq n k && not b)) drop_it ∙ no-one (nat_eq n k) in
          ap (count_by (λ d. nat_eq n d.0)) (dropped-cons drops k c cs drop_it) ∙ omega (arith, none)
      | inr keep_it ↦
          let here : one_if (nat_eq n k && not (drops c)) ≡ one_if (nat_eq n k) = ap (λ b. one_if (nat_eq n k && not b)) keep_it ∙ one (nat_eq n k) in
          ap (count_by (λ d. nat_eq n d.0)) (kept-cons drops k c cs keep_it) ∙ sum_by-cons (λ d. one_if (nat_eq n d.0)) (k, c) (kept drops (k + 1) cs) ∙ ap (λ m. m + count_by (λ d. nat_eq n d.0) (kept drops (k + 1) cs)) (sym here)
    ]
  where
    no-one : (b : Bool) → one_if (b && false) ≡ 0
    no-one true = refl
    no-one false = refl

    one : (b : Bool) → one_if (b && true) ≡ one_if b
    one true = refl
    one false = refl

other-one : (n k : ℕ) (b : Bool) → ¬ (n ≡ k) → one_if (nat_eq n k && b) ≡ 0
other-one n k b apart = ap (λ a. one_if (a && b)) (ne_eqb n k apart)

counted-past : (drops : Change → Bool) (n k : ℕ) (cs : List Change) → n < k → count_by (λ d. nat_eq n d.0) (kept drops k cs) ≡ 0
counted-past drops n k [] l = refl
counted-past drops n k (c ∷ cs) l =
    let here = other-one n k (not (drops c)) (λ e. omega (arith, e, l)) in
    let rest = counted-past drops n (k + 1) cs (omega (arith, l)) in
    count-cons drops n k c cs ∙ omega (arith, here, rest)

counted-at : (drops : Change → Bool) (k : ℕ) (cs : List Change) (n : ℕ) (c : Change) → slice_get cs n ≡ Some c → count_by (λ d. nat_eq (k + n) d.0) (kept drops k cs) ≡ one_if (not (drops c))
counted-at drops k [] n c h = absurd (none-some c h)
counted-at drops k (d ∷ cs) zero c h =
    let e : k + 0 ≡ k = omega arith in
    let rest = counted-past drops (k + 0) (k + 1) cs (omega arith) in
    let here : one_if (nat_eq (k + 0) k && not (drops d)) ≡ one_if (not (drops d)) = ap (λ b. one_if (b && not (drops d))) (eq-eqb (k + 0) k e) in
    let same : one_if (not (drops d)) ≡ one_if (not (drops c)) = ap (λ x. one_if (not (drops x))) (same_Some d c h) in
    count-cons drops (k + 0) k d cs ∙ omega (arith, rest, here, same)
counted-at drops k (d ∷ cs) (suc n) c h =
    let e : k + suc n ≡ k + 1 + n = omega arith in
    let here = other-one (k + suc n) k (not (drops d)) (λ s. omega (arith, s)) in
    let rest = ap (λ m. count_by (λ x. nat_eq m x.0) (kept drops (k + 1) cs)) e ∙ counted-at drops (k + 1) cs n c h in
    count-cons drops (k + suc n) k d cs ∙ omega (arith, here, rest)

counted-later : (drops : Change → Bool) (n k : ℕ) (cs : List Change) → k + length cs ≤ n → count_by (λ d. nat_eq n d.0) (kept drops k cs) ≡ 0
counted-later drops n k [] l = refl
counted-later drops n k (c ∷ cs) l =
    let here = other-one n k (not (drops c)) (λ e. omega (arith, e, l)) in
    let rest = counted-later drops n (k + 1) cs (omega (arith, l)) in
    count-cons drops n k c cs ∙ omega (arith, here, rest)

pub count-undropped : (cs : List Change) (n : ℕ) (c : Change) → slice_get cs n ≡ Some c → count_by (λ d. nat_eq n d.0) (undropped cs) ≡ one_if (not (is_dropped cs c))
count-undropped cs n c h =
    let e : n ≡ 0 + n = omega arith in
    ap (λ m. count_by (λ d. nat_eq m d.0) (undropped cs)) e ∙ counted-at (is_dropped cs) 0 cs n c h

pub count-past : (cs : List Change) (n : ℕ) → length cs ≤ n → count_by (λ d. nat_eq n d.0) (undropped cs) ≡ 0
count-past cs n l = counted-later (is_dropped cs) n 0 cs (omega (arith, l))

-- ---- fates
pub told-dropped : (cs : List Change) (c : Change) → is_dropped_in (fate cs c) ≡ is_dropped cs c
told-dropped cs c = go (is_dropped cs c) (owner cs c)
  where
    go : (b : Bool) (o : _) → is_dropped_in (cond b Dropped (by_owner o)) ≡ b
    go true o = refl
    go false None = refl
    go false (Some d) = refl

pub fate-at : (cs : List Change) (fates : List Fate) (n : ℕ) (c : Change) (other : Fate) → fates ≡ map (fate cs) cs → slice_get cs n ≡ Some c → is_dropped_in (get_or fates n other) ≡ is_dropped cs c
fate-at cs fates n c other are h =
    ap (λ fs. is_dropped_in (get_or fs n other)) are ∙ ap is_dropped_in (get_or_from_slice_get (map (fate cs) cs) n (fate cs c) other (slice_get-map (fate cs) cs n ∙ ap (λ o. option_map (fate cs) o) h)) ∙ told-dropped cs c
