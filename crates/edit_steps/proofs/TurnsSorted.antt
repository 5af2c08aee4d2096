-- The numbers of sorted turns, from the last to the first, are in the default order.
--     default-allowed               a default order is an allowed one
--     sorted-default                the numbers of sorted turns are in the default order
use Rattle.std.specs.Prelude.{◌≡◌, ◌<◌, ◌≤◌, ◌+◌, ◌-◌, ℕ, zero, suc, Bool, true, false, not, nat_eq, List, [], ◌∷◌, map, reverse, length, count_by, slice_get, Some, option_map, refl}
use Rattle.std.specs.List.{AllByRecursion, All, enumerate_from}
use Rattle.std.specs.List.Sorted.{IsPermutation, IsSortedBy}
use Rattle.std.specs.Ordering.{is_lt}
use Rattle.std.proofs.Common.{ap, ap₂, sym, subst, ◌∙◌, arith, get_or}
use Rattle.std.proofs.lemmas.Bool.{cases_lt, eqb-true, false≢true}
use Rattle.std.proofs.lemmas.List.{length-map, length-reverse, get_or-reverse}
use Rattle.std.proofs.lemmas.List.Elements.{recursion_from_All, All-from_recursion}
use Rattle.std.proofs.lemmas.List.Sorted.{ranks_by, sorted_far, IsPermutation-trans, IsPermutation-reverse, sum_by-IsPermutation, All-permutation}
use Rattle.std.proofs.lemmas.List.Sums.{sum_by-cons, passes_at_first}
use Rattle.std.proofs.lemmas.Option.{same_Some, slice_get-map, slice_get_within, get_or_from_slice_get}
use mathlib.Core.Logic.{inl, inr}
use Rattle.edit_change.specs.Nesting.{is_dropped, Numbered, undropped}
use Rattle.edit_change.specs.declared.change.Change.{Change}
use Rattle.edit_change.proofs.Lists.{all_filter, all_weaker, all_enumerated}
use Rattle.edit_steps.specs.Schedule.{ListsEachOnce, index_in, respects, owned_first, gap_first, token_first, IsAllowed}
use Rattle.edit_steps.specs.DefaultOrder.{default_first, IsDefaultOrder}
use Rattle.edit_steps.specs.inner.Turns.{ShownTurn, turn_in, turn_of, number_in}
use Rattle.edit_steps.specs.declared.order.document_order.Turn.{Turn}
use Rattle.edit_steps.proofs.DefaultFirst.{owned-default, gap-default, token-default, respects-weaker}
use Rattle.edit_steps.proofs.Orders.{respects_from, found-index}
use Rattle.edit_steps.proofs.Tables.{has_at}
use Rattle.edit_steps.proofs.TurnOrder.{shown_cmp, shown-total, compares-shown, default-less}
use Rattle.edit_steps.specs.inner.Waits.{one_if}
use Rattle.edit_steps.proofs.Undropped.{count-undropped}
use Rattle.edit_steps.specs.contracts.order.document_order.TurnOrd.TheImpl as ord

pub default-allowed : (cs : List Change) (order : List ℕ) → IsDefaultOrder cs order → IsAllowed cs order
default-allowed cs order is = record {
  each_once = is.each_once;
  owned_changes_first = respects-weaker (owned_first cs) default_first cs order (λ n m c d is_d h. owned-default cs n m c d is_d h) is.last_first;
  gaps_in_order = respects-weaker gap_first default_first cs order (λ n m c d is_d h. gap-default (n, c) (m, d) h) is.last_first;
  tokens_last = respects-weaker token_first default_first cs order (λ n m c d is_d h. token-default (n, c) (m, d) h) is.last_first;
}

-- ---- how often a number is there
count-map : {X Y : Type 0} (p : Y → Bool) (f : X → Y) (xs : List X) → count_by p (map f xs) ≡ count_by (λ x. p (f x)) xs
count-map p f [] = refl
count-map p f (x ∷ xs) =
    sum_by-cons (λ y. one_if (p y)) (f x) (map f xs) ∙ ap (λ n. one_if (p (f x)) + n) (count-map p f xs) ∙ sym (sum_by-cons (λ z. one_if (p (f z))) x xs)

all-mapped : {X Y : Type 0} (P : Y → Type 0) (f : X → Y) (xs : List X) → AllByRecursion P (map f xs) → AllByRecursion (λ x. P (f x)) xs
all-mapped P f [] a = tt
all-mapped P f (x ∷ xs) a = (a.0, all-mapped P f xs a.1)

all_mapped_from : {X Y : Type 0} (P : Y → Type 0) (f : X → Y) (xs : List X) → AllByRecursion (λ x. P (f x)) xs → AllByRecursion P (map f xs)
all_mapped_from P f [] a = tt
all_mapped_from P f (x ∷ xs) a = (a.0, all_mapped_from P f xs a.1)

all-at : {X : Type 0} (P : X → Type 0) (xs : List X) → All P xs → (i : ℕ) (x : X) → slice_get xs i ≡ Some x → P x
all-at {X} P xs a i x is = go xs (recursion_from_All P xs a) i is
  where
    go : (ys : List X) → AllByRecursion P ys → (j : ℕ) → slice_get ys j ≡ Some x → P x
    go [] b j h = cc
    go (y ∷ ys) b zero h = subst P (same_Some y x h) b.0
    go (y ∷ ys) b (suc j) h = go ys b.1 j h

module _ (cs : List Change) (turns sorted : List Turn) (told : map turn_in turns ≡ map turn_of (undropped cs)) (moved : IsPermutation turns sorted) where
  abbrev order : List ℕ
  order = map number_in (reverse sorted)

  turned : IsPermutation turns (reverse sorted)
  turned = IsPermutation-trans turns sorted (reverse sorted) moved (IsPermutation-reverse sorted)

  each-listed : ListsEachOnce cs order
  each-listed n =
      count-map (nat_eq n) number_in (reverse sorted) ∙ sum_by-IsPermutation (λ t. one_if (nat_eq n (number_in t))) turns (reverse sorted) turned ∙ sym (count-map (λ (s : ShownTurn). nat_eq n s.number) turn_in turns) ∙ ap (count_by (λ (s : ShownTurn). nat_eq n s.number)) told ∙ count-map (λ (s : ShownTurn). nat_eq n s.number) turn_of (undropped cs)

  -- each turn is that of its number's change
  abbrev IsShown : ShownTurn → Type 0
  IsShown s = (c : Change) × (slice_get cs s.number ≡ Some c) × (s ≡ turn_of (s.number, c))

  all-shown : All (λ t. IsShown (turn_in t)) (reverse sorted)
  all-shown =
      let stays = λ (c : Numbered). not (is_dropped cs c.1) in
      let numbered = all_filter (λ (c : Numbered). slice_get cs c.0 ≡ Some c.1) stays (enumerate_from 0 cs) (all_enumerated cs) in
      let shown : AllByRecursion (λ c. IsShown (turn_of c)) (undropped cs) = all_weaker (λ (c : Numbered). (slice_get cs c.0 ≡ Some c.1) × (stays c ≡ true)) (λ c. IsShown (turn_of c)) (undropped cs) (λ c both. (c.1, both.0, refl)) numbered in
      let turns_shown = all-mapped IsShown turn_in turns (subst (AllByRecursion IsShown) (sym told) (all_mapped_from IsShown turn_of (undropped cs) shown)) in
      All-permutation (λ t. IsShown (turn_in t)) turns (reverse sorted) turned (All-from_recursion (λ t. IsShown (turn_in t)) turns turns_shown)

  -- the turn at the index of a change is its own
  turn-at : (n : ℕ) (c : Change) → slice_get cs n ≡ Some c → is_dropped cs c ≡ false → (t : Turn) × (slice_get (reverse sorted) (index_in order n) ≡ Some t) × (turn_in t ≡ turn_of (n, c))
  turn-at n c is stays =
      let i = index_in order n in
      let one : count_by (nat_eq n) order ≡ 1 = each-listed n ∙ count-undropped cs n c is ∙ ap (λ b. one_if (not b)) stays in
      let within : i < length order = found-index order n (omega (arith, one)) in
      let long = length-map (reverse sorted) number_in in
      let at = has_at (reverse sorted) i (omega (arith, within, long)) in
      let t = at.0 in
      let named : get_or order i 0 ≡ number_in t = get_or_from_slice_get order i (number_in t) 0 (slice_get-map number_in (reverse sorted) i ∙ ap (λ o. option_map number_in o) at.1) in
      let same : n ≡ number_in t = eqb-true n (get_or order i 0) (passes_at_first (nat_eq n) order 0 within) ∙ named in
      let shown = all-at (λ t. IsShown (turn_in t)) (reverse sorted) all-shown i t at.1 in
      let alike : shown.0 ≡ c = same_Some shown.0 c (sym shown.1 ∙ ap (slice_get cs) (sym same) ∙ is) in
      (t, at.1, shown.2 ∙ ap₂ {A = ℕ} {B = Change} {C = ShownTurn} (λ k e. turn_of (k, e)) (sym same) alike)

  module _ (up : IsSortedBy (λ x y. is_lt ((ord.ghosts).cmp x y)) sorted) where
    abbrev below : Turn → Turn → Bool
    below x y = is_lt (shown_cmp (turn_in x) (turn_in y))

    far : (i j : ℕ) (t : Turn) → i ≤ j → j < length sorted → below (get_or sorted j t) (get_or sorted i t) ≡ false
    far =
        sorted_far below (ranks_by shown-total turn_in) sorted (λ k d l h. sym (ap is_lt (compares-shown (get_or sorted (k + 1) d) (get_or sorted k d))) ∙ up k d l h)

    -- what stands before comes later in the document
    none-before : (i j : ℕ) (s t : Turn) → i ≤ j → slice_get (reverse sorted) i ≡ Some s → slice_get (reverse sorted) j ≡ Some t → below s t ≡ false
    none-before i j s t l is_s is_t =
        let long = length-reverse sorted in
        let j_in : j < length sorted = omega (arith, long, slice_get_within (reverse sorted) j t is_t) in
        let i_in : i < length sorted = omega (arith, long, slice_get_within (reverse sorted) i s is_s) in
        let one : get_or sorted (length sorted - 1 - i) s ≡ s = sym (get_or-reverse sorted i s i_in) ∙ get_or_from_slice_get (reverse sorted) i s s is_s in
        let other : get_or sorted (length sorted - 1 - j) s ≡ t = sym (get_or-reverse sorted j s j_in) ∙ get_or_from_slice_get (reverse sorted) j t s is_t in
        ap₂ below (sym one) (sym other) ∙ far (length sorted - 1 - j) (length sorted - 1 - i) s (omega (arith, l, i_in)) (omega (arith, i_in))

    last-first : respects default_first cs order ≡ true
    last-first = respects_from default_first cs order (record {
      at = λ n m c d is_c c_stays is_d d_stays comes.
          let s = turn-at n c is_c c_stays in
          let t = turn-at m d is_d d_stays in
          elim (cases_lt (index_in order n) (index_in order m)) [
            | inl less ↦ less
            | inr more ↦
                let never : below t.0 s.0 ≡ false = none-before (index_in order m) (index_in order n) t.0 s.0 more t.1 s.1 in
                let turns_less : below t.0 s.0 ≡ true = ap₂ (λ x y. is_lt (shown_cmp x y)) t.2 s.2 ∙ sym (default-less (n, c) (m, d)) ∙ comes in
                absurd (false≢true (sym never ∙ turns_less))
          ];
    })

    pub sorted-default : (numbers : List ℕ) → numbers ≡ order → IsDefaultOrder cs numbers
    sorted-default numbers is = subst (IsDefaultOrder cs) (sym is) (record { each_once = each-listed; last_first = last-first })
