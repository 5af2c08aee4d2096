-- The least change that can be the next one of a run.
--     has-at                        an index below the length leads to an item
--     find-at, find-none            the first item of an enumeration that passes; there is none
--     NoneBefore, one-more          no change before a number can be the next; nor that at the number
--     first-least, first-steps, first-open      what is found
--     none-least, none-complete     where none is found, all is done
use Rattle.std.specs.Prelude.{◌≡◌, ◌↔◌, ◌<◌, ◌≤◌, ◌+◌, ℕ, zero, suc, Bool, true, false, cond, List, [], ◌∷◌, find, length, slice_get, Option, Some, None, option_map, IsSomeAnd, refl}
use Rattle.std.specs.List.{enumerate_from}
use Rattle.std.proofs.Common.{ap, ap₂, sym, subst, ◌∙◌, arith}
use Rattle.std.proofs.lemmas.Bool.{cases_Bool, cases_lt, true≢false}
use Rattle.std.proofs.lemmas.Option.{none-some, same_Some, slice_get_within}
use mathlib.Core.Logic.{inl, inr}
use Rattle.edit_change.specs.declared.change.Change.{Change}
use Rattle.edit_steps.specs.Schedule.{is_ready, is_complete}
use Rattle.edit_steps.proofs.SomeReady.{some-ready, none-ready}
use Rattle.edit_plan.specs.Run.{Run, is_done, next_ready, CanStep, TellsReady}

has-at : {X : Type 0} (xs : List X) (n : ℕ) → n < length xs → (x : X) × (slice_get xs n ≡ Some x)
has-at [] n l = absurd (omega (arith, l))
has-at (x ∷ xs) zero l = (x, refl)
has-at (x ∷ xs) (suc n) l = has-at xs n (omega (arith, l))

module _ {X : Type 0} (test : ℕ × X → Bool) where
  find-at : (j : ℕ) (xs : List X) (n : ℕ) (x : X) → slice_get xs n ≡ Some x → test (j + n, x) ≡ true → ((k : ℕ) (y : X) → k < n → slice_get xs k ≡ Some y → test (j + k, y) ≡ false) → find test (enumerate_from j xs) ≡ Some (j + n, x)
  find-at j [] n x at passes before = absurd (none-some x at)
  find-at j (y ∷ ys) zero x at passes before =
      let here : j + 0 ≡ j = omega arith in
      let same : y ≡ x = same_Some y x at in
      let found : test (j, y) ≡ true = ap (λ m. test (m, y)) (sym here) ∙ ap (λ z. test (j + 0, z)) same ∙ passes in
      ap (λ b. cond b (Some (j, y)) (find test (enumerate_from (j + 1) ys))) found ∙ ap₂ {A = ℕ} {B = X} {C = Option (ℕ × X)} (λ m z. Some (m, z)) (sym here) same
  find-at j (y ∷ ys) (suc n) x at passes before =
      let here : j + 0 ≡ j = omega arith in
      let next : (k : ℕ) → j + 1 + k ≡ j + suc k = λ k. omega arith in
      let passed : test (j, y) ≡ false = ap (λ m. test (m, y)) (sym here) ∙ before 0 y (omega arith) refl in
      ap (λ b. cond b (Some (j, y)) (find test (enumerate_from (j + 1) ys))) passed ∙ find-at (j + 1) ys n x at (ap (λ m. test (m, x)) (next n) ∙ passes) (λ k z l is. ap (λ m. test (m, z)) (next k) ∙ before (suc k) z (omega (arith, l)) is) ∙ ap {A = ℕ} {B = Option (ℕ × X)} (λ m. Some (m, x)) (next n)

  find-none : (j : ℕ) (xs : List X) → ((k : ℕ) (y : X) → slice_get xs k ≡ Some y → test (j + k, y) ≡ false) → find test (enumerate_from j xs) ≡ None
  find-none j [] none = refl
  find-none j (y ∷ ys) none =
      let here : j + 0 ≡ j = omega arith in
      let next : (k : ℕ) → j + 1 + k ≡ j + suc k = λ k. omega arith in
      let passed : test (j, y) ≡ false = ap (λ m. test (m, y)) (sym here) ∙ none 0 y refl in
      ap (λ b. cond b (Some (j, y)) (find test (enumerate_from (j + 1) ys))) passed ∙ find-none (j + 1) ys (λ k z is. ap (λ m. test (m, z)) (next k) ∙ none (suc k) z is)

module _ (r : Run) where
  abbrev ready : ℕ × Change → Bool
  ready = is_ready r.plan.changes (is_done r)

  abbrev pub NoneBefore : ℕ → Type 0
  NoneBefore n = (k : ℕ) (c : Change) → k < n → slice_get r.plan.changes k ≡ Some c → ready (k, c) ≡ false

  pub one-more : (n : ℕ) (answer : Bool) → NoneBefore n → TellsReady r n answer → answer ≡ false → NoneBefore (n + 1)
  one-more n answer none tells never = λ k c l at.
      elim (cases_lt k n) [
        | inl less ↦ none k c less at
        | inr more ↦
            let same : k ≡ n = omega (arith, l, more) in
            let here : slice_get r.plan.changes n ≡ Some c = ap (slice_get r.plan.changes) (sym same) ∙ at in
            ap (λ m. ready (m, c)) same ∙ sym (tells c here) ∙ never
      ]

  module _ (n : ℕ) (within : n < length r.plan.changes) (answer : Bool) (tells : TellsReady r n answer) (yes : answer ≡ true) where
    found : (c : Change) × (slice_get r.plan.changes n ≡ Some c)
    found = has-at r.plan.changes n within

    is-ready : ready (n, found.0) ≡ true
    is-ready = sym (tells found.0 found.1) ∙ yes

    pub first-least : NoneBefore n → Some n ≡ next_ready r
    first-least before =
        let start : (k : ℕ) → 0 + k ≡ k = λ k. omega arith in
        sym (ap (option_map (λ c. c.0)) (find-at ready 0 r.plan.changes n found.0 found.1 (ap (λ m. ready (m, found.0)) (start n) ∙ is-ready) (λ k c l at. ap (λ m. ready (m, c)) (start k) ∙ before k c l at)) ∙ ap Some (start n))

    pub first-steps : CanStep r n
    first-steps = subst (λ o. IsSomeAnd o (λ c. ready (n, c) ≡ true)) (sym found.1) is-ready

    pub first-open : (Some n ≡ None) ↔ (is_complete r.plan.changes (is_done r) ≡ true)
    first-open =
        (λ wrong. absurd (none-some n (sym wrong)), λ complete. absurd (true≢false (sym is-ready ∙ none-ready r.plan.changes (is_done r) complete n found.0 found.1)))

  module _ (i : ℕ) (past : length r.plan.changes ≤ i) (none : NoneBefore i) where
    pub none-least : None ≡ next_ready r
    none-least =
        let start : (k : ℕ) → 0 + k ≡ k = λ k. omega arith in
        sym (ap (option_map (λ c. c.0)) (find-none ready 0 r.plan.changes (λ k c at. ap (λ m. ready (m, c)) (start k) ∙ none k c (omega (arith, past, slice_get_within r.plan.changes k c at)) at)))

    pub none-complete : (◌≡◌ {A = Option ℕ} None None) ↔ (is_complete r.plan.changes (is_done r) ≡ true)
    none-complete = (λ same. complete, λ done. refl)
      where
        complete : is_complete r.plan.changes (is_done r) ≡ true
        complete = elim (cases_Bool (is_complete r.plan.changes (is_done r))) [
          | inl is ↦ is
          | inr undone ↦
              let some = some-ready r.plan.changes (is_done r) undone in
              absurd (true≢false (sym some.3 ∙ none some.0 some.1 (omega (arith, past, slice_get_within r.plan.changes some.0 some.1 some.2)) some.2))
        ]
