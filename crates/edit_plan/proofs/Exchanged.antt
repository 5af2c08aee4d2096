-- Two neighbours of a list exchanged, and the numbers that their places get.
--     exchanged                     of a number: the first of the two places and the one after it exchanged
--     slice_get-exchanged           what stands at a place
--     any-exchanged, position-exchanged, kept-exchanged      tests of the items
use Rattle.std.specs.Prelude.{◌≡◌, ℕ, zero, suc, ◌+◌, Bool, true, false, cond, not, nat_eq, nat_lt, ◌||◌, List, [], ◌∷◌, ◌++◌, length, map, filter, filter_map, position, slice_get, Option, Some, None, option_map, refl}
use Rattle.std.specs.List.{list_any, enumerate_from, position_or_len, cons_option}
use Rattle.std.proofs.Common.{ap, ap₂, sym, ◌∙◌, arith}
use Rattle.std.proofs.lemmas.Bool.{cases_lt, lt-ltb, le-ltb, eqb-true, eq-eqb}
use mathlib.Core.Logic.{inl, inr}
use Rattle.cst_core.specs.Path.{last_item}

abbrev pub exchanged : ℕ → ℕ → ℕ
exchanged zero zero = 1
exchanged zero (suc zero) = 0
exchanged zero (suc (suc n)) = suc (suc n)
exchanged (suc k) zero = zero
exchanged (suc k) (suc n) = suc (exchanged k n)

pub exchanged-twice : (k n : ℕ) → exchanged k (exchanged k n) ≡ n
exchanged-twice zero zero = refl
exchanged-twice zero (suc zero) = refl
exchanged-twice zero (suc (suc n)) = refl
exchanged-twice (suc k) zero = refl
exchanged-twice (suc k) (suc n) = ap suc (exchanged-twice k n)

same_Bool : (a b : Bool) → (a ≡ true → b ≡ true) → (b ≡ true → a ≡ true) → a ≡ b
same_Bool true b f g = sym (f refl)
same_Bool false true f g = g refl
same_Bool false false f g = refl

pub nat_eq-exchanged : (k m n : ℕ) → nat_eq m (exchanged k n) ≡ nat_eq (exchanged k m) n
nat_eq-exchanged k m n =
    same_Bool _ _ (λ h. eq-eqb (exchanged k m) n (ap (exchanged k) (eqb-true m (exchanged k n) h) ∙ exchanged-twice k n)) (λ h. eq-eqb m (exchanged k n) (sym (exchanged-twice k m) ∙ ap (exchanged k) (eqb-true (exchanged k m) n h)))

-- ---- optional numbers
pub last_item-map : {X Y : Type 0} (f : X → Y) (xs : List X) → last_item (map f xs) ≡ option_map f (last_item xs)
last_item-map f [] = refl
last_item-map f (x ∷ []) = refl
last_item-map f (x ∷ y ∷ xs) = last_item-map f (y ∷ xs)

pub filter_map-option_map : {X Y Z : Type 0} (f : Y → Z) (g : X → Option Y) (h : X → Option Z) → ((x : X) → h x ≡ option_map f (g x)) → (xs : List X) → filter_map h xs ≡ map f (filter_map g xs)
filter_map-option_map f g h same [] = refl
filter_map-option_map f g h same (x ∷ xs) =
    ap₂ cons_option (same x) (filter_map-option_map f g h same xs) ∙ elim (g x) as (λ o. cons_option (option_map f o) (map f (filter_map g xs)) ≡ map f (cons_option o (filter_map g xs))) [ None ↦ refl | Some y ↦ refl ]

pub position-cons : {X : Type 0} (test : X → Bool) (x : X) (xs : List X) → position test (x ∷ xs) ≡ cond (test x) (Some 0) (option_map suc (position test xs))
position-cons test x xs =
    elim (test x) as (λ b. cond (nat_lt (cond (not b) (1 + position_or_len test xs) 0) (length (x ∷ xs))) (Some (cond (not b) (1 + position_or_len test xs) 0)) None ≡ cond b (Some 0) (option_map suc (position test xs))) [
      | true ↦ ap (λ b. cond b (Some 0) None) (lt-ltb 0 (length (x ∷ xs)) (omega arith))
      | false ↦
          let next : 1 + position_or_len test xs ≡ suc (position_or_len test xs) = omega arith in
          elim (cases_lt (position_or_len test xs) (length xs)) [
            | inl below ↦ ap (λ b. cond b (Some (1 + position_or_len test xs)) None) (lt-ltb (1 + position_or_len test xs) (length (x ∷ xs)) (omega arith)) ∙ ap Some next ∙ sym (ap (λ b. option_map suc (cond b (Some (position_or_len test xs)) None)) (lt-ltb (position_or_len test xs) (length xs) below))
            | inr past ↦ ap (λ b. cond b (Some (1 + position_or_len test xs)) None) (le-ltb (1 + position_or_len test xs) (length (x ∷ xs)) (omega arith)) ∙ sym (ap (λ b. option_map suc (cond b (Some (position_or_len test xs)) None)) (le-ltb (position_or_len test xs) (length xs) past))
          ]
    ]

-- the numbers of the items that pass
abbrev pub kept : {X : Type 0} → (X → Bool) → ℕ → List X → List ℕ
kept test i xs = map (λ d. d.0) (filter (λ d. test d.1) (enumerate_from i xs))

kept-shift : {X : Type 0} (test : X → Bool) (i : ℕ) (xs : List X) → kept test (i + 1) xs ≡ map suc (kept test i xs)
kept-shift test i [] = refl
kept-shift test i (x ∷ xs) =
    let here : i + 1 ≡ suc i = omega arith in
    elim (test x) as (λ b. map (λ d. d.0) (cond b ((i + 1, x) ∷ filter (λ d. test d.1) (enumerate_from (i + 1 + 1) xs)) (filter (λ d. test d.1) (enumerate_from (i + 1 + 1) xs))) ≡ map suc (map (λ d. d.0) (cond b ((i, x) ∷ filter (λ d. test d.1) (enumerate_from (i + 1) xs)) (filter (λ d. test d.1) (enumerate_from (i + 1) xs))))) [
      | true ↦ ap₂ (λ n ns. n ∷ ns) here (kept-shift test (i + 1) xs)
      | false ↦ kept-shift test (i + 1) xs
    ]

kept-cons : {X : Type 0} (test : X → Bool) (x : X) (xs : List X) → kept test 0 (x ∷ xs) ≡ cond (test x) (0 ∷ map suc (kept test 0 xs)) (map suc (kept test 0 xs))
kept-cons test x xs =
    let rest : kept test 1 xs ≡ map suc (kept test 0 xs) = kept-shift test 0 xs in
    elim (test x) as (λ b. map (λ d. d.0) (cond b ((0, x) ∷ filter (λ d. test d.1) (enumerate_from 1 xs)) (filter (λ d. test d.1) (enumerate_from 1 xs))) ≡ cond b (0 ∷ map suc (kept test 0 xs)) (map suc (kept test 0 xs))) [
      | true ↦ ap (λ ns. 0 ∷ ns) rest
      | false ↦ rest
    ]

-- ---- the lists
module _ {X : Type 0} (c d : X) (after : List X) where
  pub slice_get-exchanged : (before : List X) (n : ℕ) → slice_get (before ++ d ∷ c ∷ after) (exchanged (length before) n) ≡ slice_get (before ++ c ∷ d ∷ after) n
  slice_get-exchanged [] zero = refl
  slice_get-exchanged [] (suc zero) = refl
  slice_get-exchanged [] (suc (suc n)) = refl
  slice_get-exchanged (x ∷ before) zero = refl
  slice_get-exchanged (x ∷ before) (suc n) = slice_get-exchanged before n

  module _ (test : X → Bool) where
    pub any-exchanged : (before : List X) → list_any test (before ++ d ∷ c ∷ after) ≡ list_any test (before ++ c ∷ d ∷ after)
    any-exchanged [] = or_swap (test d) (test c) (list_any test after)
      where
        or_swap : (a b e : Bool) → (a || (b || e)) ≡ (b || (a || e))
        or_swap true true e = refl
        or_swap true false e = refl
        or_swap false true e = refl
        or_swap false false e = refl
    any-exchanged (x ∷ before) = ap (λ b. test x || b) (any-exchanged before)

    module _ (apart : test c ≡ true → test d ≡ true → ⊥) where
      pub position-exchanged : (before : List X) → position test (before ++ d ∷ c ∷ after) ≡ option_map (exchanged (length before)) (position test (before ++ c ∷ d ∷ after))
      position-exchanged [] =
          position-cons test d (c ∷ after) ∙ ap (λ o. cond (test d) (Some 0) (option_map suc o)) (position-cons test c after) ∙ start (test c) (test d) apart (position test after) ∙ ap (option_map (exchanged 0)) (sym (position-cons test c (d ∷ after) ∙ ap (λ o. cond (test c) (Some 0) (option_map suc o)) (position-cons test d after)))
        where
          start : (a b : Bool) → (a ≡ true → b ≡ true → ⊥) → (o : Option ℕ) → cond b (Some 0) (option_map suc (cond a (Some 0) (option_map suc o))) ≡ option_map (exchanged 0) (cond a (Some 0) (option_map suc (cond b (Some 0) (option_map suc o))))
          start true true never o = absurd (never refl refl)
          start true false never o = refl
          start false true never o = refl
          start false false never None = refl
          start false false never (Some n) = refl
      position-exchanged (x ∷ before) =
          position-cons test x (before ++ d ∷ c ∷ after) ∙ ap (λ o. cond (test x) (Some 0) (option_map suc o)) (position-exchanged before) ∙ step (test x) (position test (before ++ c ∷ d ∷ after)) ∙ ap (option_map (exchanged (suc (length before)))) (sym (position-cons test x (before ++ c ∷ d ∷ after)))
        where
          step : (b : Bool) (o : Option ℕ) → cond b (Some 0) (option_map suc (option_map (exchanged (length before)) o)) ≡ option_map (exchanged (suc (length before))) (cond b (Some 0) (option_map suc o))
          step true o = refl
          step false None = refl
          step false (Some n) = refl

      pub kept-exchanged : (before : List X) → kept test 0 (before ++ d ∷ c ∷ after) ≡ map (exchanged (length before)) (kept test 0 (before ++ c ∷ d ∷ after))
      kept-exchanged [] =
          kept-cons test d (c ∷ after) ∙ ap (λ ns. cond (test d) (0 ∷ map suc ns) (map suc ns)) (kept-cons test c after) ∙ start (test c) (test d) apart (kept test 0 after) ∙ ap (map (exchanged 0)) (sym (kept-cons test c (d ∷ after) ∙ ap (λ ns. cond (test c) (0 ∷ map suc ns) (map suc ns)) (kept-cons test d after)))
        where
          past : (ns : List ℕ) → map suc (map suc ns) ≡ map (exchanged 0) (map suc (map suc ns))
          past [] = refl
          past (n ∷ ns) = ap (λ ms. suc (suc n) ∷ ms) (past ns)

          start : (a b : Bool) → (a ≡ true → b ≡ true → ⊥) → (ns : List ℕ) → cond b (0 ∷ map suc (cond a (0 ∷ map suc ns) (map suc ns))) (map suc (cond a (0 ∷ map suc ns) (map suc ns))) ≡ map (exchanged 0) (cond a (0 ∷ map suc (cond b (0 ∷ map suc ns) (map suc ns))) (map suc (cond b (0 ∷ map suc ns) (map suc ns))))
          start true true never ns = absurd (never refl refl)
          start true false never ns = ap (λ ms. 1 ∷ ms) (past ns)
          start false true never ns = ap (λ ms. 0 ∷ ms) (past ns)
          start false false never ns = past ns
      kept-exchanged (x ∷ before) =
          kept-cons test x (before ++ d ∷ c ∷ after) ∙ ap (λ ns. cond (test x) (0 ∷ map suc ns) (map suc ns)) (kept-exchanged before) ∙ step (test x) (kept test 0 (before ++ c ∷ d ∷ after)) ∙ ap (map (exchanged (suc (length before)))) (sym (kept-cons test x (before ++ c ∷ d ∷ after)))
        where
          shift : (ns : List ℕ) → map suc (map (exchanged (length before)) ns) ≡ map (exchanged (suc (length before))) (map suc ns)
          shift [] = refl
          shift (n ∷ ns) = ap (λ ms. suc (exchanged (length before) n) ∷ ms) (shift ns)

          step : (b : Bool) (ns : List ℕ) → cond b (0 ∷ map suc (map (exchanged (length before)) ns)) (map suc (map (exchanged (length before)) ns)) ≡ map (exchanged (suc (length before))) (cond b (0 ∷ map suc ns) (map suc ns))
          step true ns = ap (λ ms. 0 ∷ ms) (shift ns)
          step false ns = shift ns
