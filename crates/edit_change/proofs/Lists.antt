-- Facts of all elements of a list, and filters.
use Rattle.std.specs.Prelude.{◌≡◌, ◌≢◌, ◌<◌, ℕ, zero, suc, ◌+◌, length, Bool, true, cond, List, [], ◌∷◌, ◌++◌, filter, flat_map, slice_get, Some, Result, Ok, Err, OnOk, IfOk, refl}
use Rattle.std.specs.List.{AllByRecursion, enumerate_from}
use Rattle.std.proofs.Common.{ap, ap₂, sym, subst, ◌∙◌, arith}
use Rattle.std.proofs.lemmas.Bool.{cases_Bool}
use Rattle.std.proofs.lemmas.Option.{none-some, same_Some}
use Rattle.std.proofs.Math.ListN.{set}
use mathlib.Core.Logic.{inl, inr}
use Rattle.cst_core.specs.Path.{last_item}

module _ {X : Type 0} (P : X → Type 0) where
  pub all-append : (xs ys : List X) → AllByRecursion P xs → AllByRecursion P ys → AllByRecursion P (xs ++ ys)
  all-append [] ys p q = q
  all-append (x ∷ xs) ys p q = (p.0, all-append xs ys p.1 q)

  pub all_last : (xs : List X) (x : X) → AllByRecursion P xs → last_item xs ≡ Some x → P x
  all_last [] x a h = cc
  all_last (y ∷ []) x a h = subst P (same_Some y x h) a.0
  all_last (y ∷ z ∷ xs) x a h = all_last (z ∷ xs) x a.1 h

  pub all_filter : (test : X → Bool) (xs : List X) → AllByRecursion P xs → AllByRecursion (λ x. P x × (test x ≡ true)) (filter test xs)
  all_filter test [] a = tt
  all_filter test (x ∷ xs) a =
      elim (cases_Bool (test x)) [
        | inl passes ↦ subst (λ b. AllByRecursion (λ x. P x × (test x ≡ true)) (cond b (x ∷ filter test xs) (filter test xs))) (sym passes) ((a.0, passes), all_filter test xs a.1)
        | inr fails ↦ subst (λ b. AllByRecursion (λ x. P x × (test x ≡ true)) (cond b (x ∷ filter test xs) (filter test xs))) (sym fails) (all_filter test xs a.1)
      ]

pub all_weaker : {X : Type 0} (P Q : X → Type 0) (xs : List X) → ((x : X) → P x → Q x) → AllByRecursion P xs → AllByRecursion Q xs
all_weaker P Q [] h a = tt
all_weaker P Q (x ∷ xs) h a = (h x a.0, all_weaker P Q xs h a.1)

-- each item of an enumeration stands at its number
enumerated : {X : Type 0} (all : List X) (k : ℕ) (xs : List X) → ((j : ℕ) (x : X) → slice_get xs j ≡ Some x → slice_get all (k + j) ≡ Some x) → AllByRecursion (λ d. slice_get all d.0 ≡ Some d.1) (enumerate_from k xs)
enumerated all k [] h = tt
enumerated all k (x ∷ xs) h =
    let here : k + 0 ≡ k = omega arith in
    (ap (λ n. slice_get all n) (sym here) ∙ h 0 x refl, enumerated all (k + 1) xs (λ j y s. let next : k + 1 + j ≡ k + suc j = omega arith in ap (λ n. slice_get all n) next ∙ h (suc j) y s))

pub all_enumerated : {X : Type 0} (xs : List X) → AllByRecursion (λ d. slice_get xs d.0 ≡ Some d.1) (enumerate_from 0 xs)
all_enumerated xs = enumerated xs 0 xs (λ j x s. let same : 0 + j ≡ j = omega arith in ap (λ n. slice_get xs n) same ∙ s)

pub flat_map-agree : {X Y : Type 0} (f g : X → List Y) (xs : List X) → AllByRecursion (λ x. f x ≡ g x) xs → flat_map f xs ≡ flat_map g xs
flat_map-agree f g [] a = refl
flat_map-agree f g (x ∷ xs) a = ap₂ (λ u v. u ++ v) a.0 (flat_map-agree f g xs a.1)

-- ---- one item exchanged
pub slice_get-set_same : {X : Type 0} (xs : List X) (i : ℕ) (x : X) → i < length xs → slice_get (set xs i x) i ≡ Some x
slice_get-set_same [] i x l = absurd (omega (arith, l))
slice_get-set_same (y ∷ xs) zero x l = refl
slice_get-set_same (y ∷ xs) (suc i) x l = slice_get-set_same xs i x (omega (arith, l))

pub slice_get-set_other : {X : Type 0} (xs : List X) (i j : ℕ) (x : X) → j ≢ i → slice_get (set xs i x) j ≡ slice_get xs j
slice_get-set_other [] i j x other = refl
slice_get-set_other (y ∷ xs) zero zero x other = absurd (other refl)
slice_get-set_other (y ∷ xs) zero (suc j) x other = refl
slice_get-set_other (y ∷ xs) (suc i) zero x other = refl
slice_get-set_other (y ∷ xs) (suc i) (suc j) x other = slice_get-set_other xs i j x (λ same. other (ap suc same))

-- ---- what holds of an answer
pub if-ok-weaker : {T E : Type 0} (P Q : T → Type 0) → ((t : T) → P t → Q t) → (r : Result T E) → IfOk r P → IfOk r Q
if-ok-weaker P Q h (Ok t) a = h t a
if-ok-weaker P Q h (Err e) a = tt

pub on-ok-weaker : {T E : Type 0} {A B : Type 0} (r : Result T E) → (A → B) → OnOk r A → OnOk r B
on-ok-weaker (Ok t) h a = h a
on-ok-weaker (Err e) h a = tt

-- what holds of all, holds of the one at a number
pub all_at : {X : Type 0} (P : X → Type 0) (xs : List X) (i : ℕ) (x : X) → AllByRecursion P xs → slice_get xs i ≡ Some x → P x
all_at P [] i x a is = absurd (none-some x is)
all_at P (y ∷ xs) zero x a is = subst P (same_Some y x is) a.0
all_at P (y ∷ xs) (suc i) x a is = all_at P xs i x a.1 is
