-- Document order of paths.
--     precedes-compared             it is that of lists of numbers
--     precedes-self, precedes-turned, precedes-through     it is an order
--     all-above, all-up_to          what is above a path, and the path itself, stands before what the path stands before
--     before-first, before-next     a path stands before its first child, and before the next slot
--     range-after                  a range begins at its first element
use Rattle.std.specs.Prelude.{◌≡◌, ◌≤◌, ◌⊎◌, ℕ, zero, suc, true, false, ◌&&◌, nat_eq, nat_lt, List, [], ◌∷◌, ◌++◌, map, refl}
use Rattle.std.specs.List.{AllByRecursion}
use Rattle.std.specs.Cmp.Lexicographic.{slice_cmp}
use Rattle.std.specs.Ordering.{nat_cmp, is_lt, ordering_reverse}
use Rattle.std.specs.declared.cmp.Ordering.TheVariants.{Less, Equal, Greater}
use Rattle.std.proofs.Common.{Ordering, ap, sym, ◌∙◌, arith}
use Rattle.std.proofs.lemmas.Bool.{or_cases, or_left, or_right, and_from, eq-eqb, lt-ltb, false≢true, true≢false, cases_eq, false_from_ne_true}
use Rattle.std.proofs.lemmas.Bool.Decides.{nat_tests}
use Rattle.std.proofs.lemmas.Cmp.{same_from_slice_cmp, nat_list_cmp_total}
use mathlib.Core.Logic.{inl, inr}
use Rattle.cst_core.specs.Path.{Path, same_path, has_path, precedes, parent_path, last_slot, above, up_to, counted_from}
use Rattle.edit_change.proofs.Lists.{all-append, all_weaker}
use Rattle.edit_change.proofs.Paths.{same_path-true}

pub precedes-compared : (p q : Path) → is_lt (slice_cmp nat_cmp p q) ≡ precedes p q
precedes-compared p q =
    same_from_slice_cmp nat_cmp is_lt precedes refl (λ _ _. refl) (λ _ _. refl) (λ x y xs ys o h. grind (arith, nat_tests)) p q (slice_cmp nat_cmp p q) refl

less-is : (o : Ordering) → is_lt o ≡ true → o ≡ Less
less-is Less h = refl
less-is Equal h = absurd (false≢true h)
less-is Greater h = absurd (false≢true h)

pub precedes-less : (p q : Path) → precedes p q ≡ true → slice_cmp nat_cmp p q ≡ Less
precedes-less p q h = less-is (slice_cmp nat_cmp p q) (precedes-compared p q ∙ h)

pub precedes-turned : (p q : Path) → precedes p q ≡ true → precedes q p ≡ false
precedes-turned p q h =
    sym (precedes-compared q p) ∙ ap is_lt (nat_list_cmp_total.antisymm q p ∙ ap ordering_reverse (precedes-less p q h))

pub precedes-self : (p : Path) → precedes p p ≡ false
precedes-self p = false_from_ne_true (precedes p p) (λ h. true≢false (sym h ∙ precedes-turned p p h))

pub precedes-through : (p q r : Path) → precedes p q ≡ true → precedes q r ≡ true → precedes p r ≡ true
precedes-through p q r h k =
    sym (precedes-compared p r) ∙ ap is_lt (nat_list_cmp_total.trans p q r (precedes-less p q h) (precedes-less q r k))

below-child : (i : ℕ) (p q : Path) → precedes p q ≡ true → precedes (i ∷ p) (i ∷ q) ≡ true
below-child i p q h = or_right (nat_lt i i) (nat_eq i i && precedes p q) (and_from (nat_eq i i) (precedes p q) (eq-eqb i i refl) h)

-- ---- what is above a path
all-below-child : (i : ℕ) (p : Path) (qs : List Path) → AllByRecursion (λ q. precedes q p ≡ true) qs → AllByRecursion (λ q. precedes q (i ∷ p) ≡ true) (map (λ q. i ∷ q) qs)
all-below-child i p [] a = tt
all-below-child i p (q ∷ qs) a = (below-child i q p a.0, all-below-child i p qs a.1)

pub all-above : (p : Path) → AllByRecursion (λ q. precedes q p ≡ true) (above p)
all-above [] = tt
all-above (i ∷ p) = (refl, all-below-child i p (above p) (all-above p))

pub all-up_to : (p r : Path) → precedes p r ≡ true → AllByRecursion (λ q. precedes q r ≡ true) (up_to p)
all-up_to p r h =
    all-append (λ q. precedes q r ≡ true) (above p) (p ∷ []) (all_weaker (λ q. precedes q p ≡ true) (λ q. precedes q r ≡ true) (above p) (λ q k. precedes-through q p r k h) (all-above p)) (h, tt)

pub before-first : (p : Path) → precedes p (p ++ 0 ∷ []) ≡ true
before-first [] = refl
before-first (i ∷ p) = below-child i p (p ++ 0 ∷ []) (before-first p)

pub before-next : (p : Path) → precedes p (parent_path p ++ suc (last_slot p) ∷ []) ≡ true
before-next [] = refl
before-next (i ∷ []) = or_left (nat_lt i (suc i)) _ (lt-ltb i (suc i) (omega arith))
before-next (i ∷ j ∷ p) = below-child i (j ∷ p) (parent_path (j ∷ p) ++ suc (last_slot (j ∷ p)) ∷ []) (before-next (j ∷ p))

-- ---- ranges
sibling-after : (p : Path) (i : ℕ) → last_slot p ≤ i → (p ≡ parent_path p ++ i ∷ []) ⊎ (precedes p (parent_path p ++ i ∷ []) ≡ true)
sibling-after [] i l = inr refl
sibling-after (j ∷ []) i l =
    elim (cases_eq j i) [
      | inl same ↦ inl (ap {A = ℕ} {B = Path} (λ k. k ∷ []) same)
      | inr apart ↦ inr (or_left (nat_lt j i) _ (lt-ltb j i (omega (arith, l, apart))))
    ]
sibling-after (j ∷ k ∷ p) i l =
    elim (sibling-after (k ∷ p) i l) [
      | inl same ↦ inl (ap (λ q. j ∷ q) same)
      | inr before ↦ inr (below-child j (k ∷ p) (parent_path (k ∷ p) ++ i ∷ []) before)
    ]

-- a path after which something stands stands after the first of its range, or is that one
pub range-after : (p : Path) (a n : ℕ) (q : Path) → last_slot p ≤ a → has_path (map (λ i. parent_path p ++ i ∷ []) (counted_from a n)) q ≡ true → (r : Path) → precedes q r ≡ true → precedes p r ≡ true
range-after p a zero q l h r k = absurd (false≢true h)
range-after p a (suc n) q l h r k =
    elim (or_cases (same_path q (parent_path p ++ a ∷ [])) (has_path (map (λ i. parent_path p ++ i ∷ []) (counted_from (suc a) n)) q) h) [
      | inl here ↦
          let same = same_path-true q (parent_path p ++ a ∷ []) here in
          let next : precedes (parent_path p ++ a ∷ []) r ≡ true = ap (λ x. precedes x r) (sym same) ∙ k in
          elim (sibling-after p a l) [
            | inl first ↦ ap (λ x. precedes x r) first ∙ next
            | inr before ↦ precedes-through p (parent_path p ++ a ∷ []) r before next
          ]
      | inr there ↦ range-after p (suc a) n q (omega (arith, l)) there r k
    ]
