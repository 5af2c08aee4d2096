-- Where changes are left, one of them can be the next.
--     greatest                       of some items, one that is not below any other
--     some-ready                     of the changes that are left, the last in the document can be the next
--     none-ready                     where none is left, none can be the next
use Rattle.std.specs.Prelude.{◌≡◌, ℕ, Bool, true, false, not, ◌&&◌, ◌||◌, cond, List, [], ◌∷◌, filter, slice_get, Some, refl}
use Rattle.std.specs.List.{list_all, AllByRecursion, enumerate_from}
use Rattle.std.specs.Cmp.{IsTotalOrder}
use Rattle.std.specs.Ordering.{is_lt, ordering_reverse}
use Rattle.std.specs.declared.cmp.Ordering.TheVariants.{Less, Equal, Greater}
use Rattle.std.proofs.Common.{Ordering, ap, sym, subst, ◌∙◌}
use Rattle.std.proofs.lemmas.Bool.{cases_Bool, and_parts, and_from, or_cases, or_left, or_right, not_from_false, not-true, false≢true, true≢false}
use mathlib.Core.Logic.{inl, inr}
use Rattle.edit_change.specs.Nesting.{is_dropped, Numbered, undropped}
use Rattle.edit_change.specs.declared.change.Change.{Change}
use Rattle.edit_change.proofs.Lists.{all_filter, all_weaker, all_enumerated}
use Rattle.edit_steps.specs.Schedule.{owned_first, gap_first, token_first, comes_first, is_ready, is_complete}
use Rattle.edit_steps.specs.DefaultOrder.{default_first}
use Rattle.edit_steps.specs.inner.Turns.{turn_of}
use Rattle.edit_steps.proofs.DefaultFirst.{owned-default, gap-default, token-default}
use Rattle.edit_steps.proofs.TurnOrder.{shown_cmp, shown-total, default-less}
use Rattle.edit_steps.proofs.Undropped.{all-undropped, all_undropped_from}

-- ---- the greatest of some items
is-less : (o : Ordering) → is_lt o ≡ true → o ≡ Less
is-less Less h = refl
is-less Equal h = absurd (false≢true h)
is-less Greater h = absurd (false≢true h)

module _ {X K : Type 0} (R : K → K → Ordering) (total : IsTotalOrder R) (key : X → K) where
  abbrev less : X → X → Bool
  less x y = is_lt (R (key x) (key y))

  less-self : (x : X) → less x x ≡ false
  less-self x =
      elim (cases_Bool (less x x)) [
        | inl is ↦
            let same : R (key x) (key x) ≡ Less = is-less (R (key x) (key x)) is in
            let turned : Less ≡ Greater = sym same ∙ total.antisymm (key x) (key x) ∙ ap ordering_reverse same in
            absurd (true≢false (ap is_lt turned))
        | inr never ↦ never
      ]

  less-than : (m x y : X) → less m x ≡ true → less m y ≡ false → less x y ≡ false
  less-than m x y up stays =
      elim (cases_Bool (less x y)) [
        | inl is ↦
            let all : R (key m) (key y) ≡ Less = total.trans (key m) (key x) (key y) (is-less (R (key m) (key x)) up) (is-less (R (key x) (key y)) is) in
            absurd (true≢false (sym (ap is_lt all) ∙ stays))
        | inr never ↦ never
      ]

  pub greatest : (P : X → Type 0) (x : X) (xs : List X) → P x → AllByRecursion P xs → (m : X) × P m × AllByRecursion (λ y. less m y ≡ false) (x ∷ xs)
  greatest P x [] here rest = (x, here, (less-self x, tt))
  greatest P x (y ∷ ys) here rest =
      let top = greatest P y ys rest.0 rest.1 in
      elim (cases_Bool (less top.0 x)) [
        | inl up ↦ (x, here, (less-self x, all_weaker (λ z. less top.0 z ≡ false) (λ z. less x z ≡ false) (y ∷ ys) (λ z. less-than top.0 x z up) top.2))
        | inr stays ↦ (top.0, top.1, (stays, top.2))
      ]

-- ---- what is left
module _ {X : Type 0} (p : X → Bool) where
  abbrev fails : X → Bool
  fails x = not (p x)

  none-left : (xs : List X) → filter fails xs ≡ [] → list_all p xs ≡ true
  none-left [] h = refl
  none-left (x ∷ xs) h =
      elim (cases_Bool (p x)) [
        | inl is ↦ and_from (p x) (list_all p xs) is (none-left xs (sym (ap (λ b. cond (not b) (x ∷ filter fails xs) (filter fails xs)) is) ∙ h))
        | inr is ↦ let wrong : x ∷ filter fails xs ≡ [] = sym (ap (λ b. cond (not b) (x ∷ filter fails xs) (filter fails xs)) is) ∙ h in cc
      ]

  told-left : (q : X → Bool) (xs : List X) → AllByRecursion (λ y. q y ≡ false) (filter fails xs) → list_all (λ x. p x || not (q x)) xs ≡ true
  told-left q [] a = refl
  told-left q (x ∷ xs) a =
      elim (cases_Bool (p x)) [
        | inl is ↦
            let rest = subst (λ b. AllByRecursion (λ y. q y ≡ false) (cond (not b) (x ∷ filter fails xs) (filter fails xs))) is a in
            and_from (p x || not (q x)) (list_all (λ y. p y || not (q y)) xs) (or_left (p x) (not (q x)) is) (told-left q xs rest)
        | inr is ↦
            let both = subst (λ b. AllByRecursion (λ y. q y ≡ false) (cond (not b) (x ∷ filter fails xs) (filter fails xs))) is a in
            and_from (p x || not (q x)) (list_all (λ y. p y || not (q y)) xs) (or_right (p x) (not (q x)) (not_from_false (q x) both.0)) (told-left q xs both.1)
      ]

-- ---- changes
module _ (cs : List Change) (done : ℕ → Bool) where
  abbrev IsNumbered : Numbered → Type 0
  IsNumbered d = slice_get cs d.0 ≡ Some d.1

  abbrev stays : Numbered → Bool
  stays d = not (is_dropped cs d.1)

  abbrev is_over : Numbered → Bool
  is_over d = done d.0

  abbrev left : List Numbered
  left = filter (λ d. not (is_over d)) (undropped cs)

  abbrev IsLeft : Numbered → Type 0
  IsLeft d = ((IsNumbered d) × (stays d ≡ true)) × (not (is_over d) ≡ true)

  all-left : AllByRecursion IsLeft left
  all-left =
      all_filter (λ d. (IsNumbered d) × (stays d ≡ true)) (λ d. not (is_over d)) (undropped cs) (all_filter IsNumbered stays (enumerate_from 0 cs) (all_enumerated cs))

  comes-default : (i n : ℕ) (d c : Change) → slice_get cs n ≡ Some c → comes_first cs (i, d) (n, c) ≡ true → default_first (i, d) (n, c) ≡ true
  comes-default i n d c at comes =
      elim (or_cases (owned_first cs (i, d) (n, c) || gap_first (i, d) (n, c)) (token_first (i, d) (n, c)) comes) [
        | inl two ↦ elim (or_cases (owned_first cs (i, d) (n, c)) (gap_first (i, d) (n, c)) two) [
          | inl owned ↦ owned-default cs i n d c at owned
          | inr gap ↦ gap-default (i, d) (n, c) gap
        ]
        | inr token ↦ token-default (i, d) (n, c) token
      ]

  abbrev pub CanBeNext : Type 0
  CanBeNext = (n : ℕ) × (c : Change) × (slice_get cs n ≡ Some c) × (is_ready cs done (n, c) ≡ true)

  greatest-ready : (m : Numbered) → IsLeft m → AllByRecursion (λ d. less shown_cmp shown-total turn_of m d ≡ false) left → CanBeNext
  greatest-ready m is top =
      let told = told-left is_over (less shown_cmp shown-total turn_of m) (undropped cs) top in
      let before : (i : ℕ) (d : Change) → slice_get cs i ≡ Some d → is_dropped cs d ≡ false → comes_first cs (i, d) m ≡ true → done i ≡ true = λ i d at kept comes.
      let under : less shown_cmp shown-total turn_of m (i, d) ≡ true = sym (default-less (i, d) m) ∙ comes-default i m.0 d m.1 is.0.0 comes in
      elim (or_cases (done i) (not (less shown_cmp shown-total turn_of m (i, d))) (all-undropped (λ e. is_over e || not (less shown_cmp shown-total turn_of m e)) cs told i d at kept)) [
        | inl over ↦ over
        | inr never ↦ absurd (true≢false (sym under ∙ not-true (less shown_cmp shown-total turn_of m (i, d)) never))
      ] in
      let all : list_all (λ d. not (comes_first cs d m) || done d.0) (undropped cs) ≡ true = all_undropped_from (λ d. not (comes_first cs d m) || done d.0) cs (λ i d at kept.
      elim (cases_Bool (comes_first cs (i, d) m)) [
        | inl comes ↦ or_right (not (comes_first cs (i, d) m)) (done i) (before i d at kept comes)
        | inr never ↦ or_left (not (comes_first cs (i, d) m)) (done i) (not_from_false (comes_first cs (i, d) m) never)
      ]) in
      (m.0, m.1, is.0.0, and_from (stays m && not (done m.0)) _ (and_from (stays m) (not (done m.0)) is.0.1 is.1) all)

  pub some-ready : is_complete cs done ≡ false → CanBeNext
  some-ready undone = go left refl all-left
    where
      go : (ds : List Numbered) → left ≡ ds → AllByRecursion IsLeft ds → CanBeNext
      go [] none all = absurd (true≢false (sym (none-left is_over (undropped cs) none) ∙ undone))
      go (d ∷ ds) some all =
          let top = greatest shown_cmp shown-total turn_of IsLeft d ds all.0 all.1 in
          greatest-ready top.0 top.1 (subst (AllByRecursion (λ e. less shown_cmp shown-total turn_of top.0 e ≡ false)) (sym some) top.2)

  pub none-ready : is_complete cs done ≡ true → (n : ℕ) (c : Change) → slice_get cs n ≡ Some c → is_ready cs done (n, c) ≡ false
  none-ready complete n c at =
      elim (cases_Bool (is_ready cs done (n, c))) [
        | inl is ↦
            let two = and_parts (not (is_dropped cs c) && not (done n)) (list_all (λ d. not (comes_first cs d (n, c)) || done d.0) (undropped cs)) is in
            let one = and_parts (not (is_dropped cs c)) (not (done n)) two.0 in
            let over : done n ≡ true = all-undropped (λ d. done d.0) cs complete n c at (not-true (is_dropped cs c) one.0) in
            absurd (true≢false (sym over ∙ not-true (done n) one.1))
        | inr never ↦ never
      ]
