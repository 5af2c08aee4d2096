-- Along an allowed order each change can be the next.
--     in-count, index-of            a number that is there is counted; where it is there once, that is its index
--     OnTheWay                      what stands in an order before a index is done
--     allowed-step                  then what stands at that index can be the next
--     next-done                     and with it all before the next index is done
--     allowed-complete              at the end all is done
use Rattle.std.specs.Prelude.{◌≡◌, ◌<◌, ◌≤◌, ◌+◌, ℕ, zero, suc, Bool, true, false, not, ◌&&◌, ◌||◌, cond, nat_eq, nat_lt, List, [], ◌∷◌, length, count_by, slice_get, Some}
use Rattle.std.specs.List.{list_all}
use Rattle.std.proofs.Common.{ap, sym, ◌∙◌, arith}
use Rattle.std.proofs.lemmas.Bool.{cases_Bool, cases_eq, cases_lt, or_cases, or_left, or_right, and_from, not_from_false, lt-ltb, le-ltb, eq-eqb, ne_eqb, eqb-true}
use Rattle.std.proofs.lemmas.List.Sums.{sum_by-cons}
use Rattle.std.proofs.lemmas.Option.{none-some, same_Some, slice_get_within}
use mathlib.Core.Logic.{inl, inr}
use Rattle.edit_change.specs.Nesting.{is_dropped, Numbered, undropped}
use Rattle.edit_change.specs.declared.change.Change.{Change}
use Rattle.edit_steps.specs.Schedule.{IsAllowed, index_in, owned_first, gap_first, token_first, comes_first, is_ready, is_complete}
use Rattle.edit_steps.specs.inner.Waits.{one_if}
use Rattle.edit_steps.proofs.Orders.{Respects, respects_to, found-index}
use Rattle.edit_steps.proofs.Tables.{has_at}
use Rattle.edit_steps.proofs.Undropped.{all_undropped_from, count-undropped, count-past}

pub in-count : (order : List ℕ) (i n : ℕ) → slice_get order i ≡ Some n → 0 < count_by (nat_eq n) order
in-count [] i n at = absurd (none-some n at)
in-count (x ∷ order) zero n at =
    let here : nat_eq n x ≡ true = eq-eqb n x (sym (same_Some x n at)) in
    let parts = sum_by-cons (λ y. one_if (nat_eq n y)) x order in
    let one = ap one_if here in
    omega (arith, parts, one)
in-count (x ∷ order) (suc i) n at =
    let parts = sum_by-cons (λ y. one_if (nat_eq n y)) x order in
    let rest = in-count order i n at in
    omega (arith, parts, rest)

pub index-of : (order : List ℕ) (i n : ℕ) → slice_get order i ≡ Some n → count_by (nat_eq n) order ≡ 1 → index_in order n ≡ i
index-of [] i n at once = absurd (none-some n at)
index-of (x ∷ order) zero n at once =
    let here : nat_eq n x ≡ true = eq-eqb n x (sym (same_Some x n at)) in
    ap (λ b. cond (not b) (1 + index_in order n) 0) here
index-of (x ∷ order) (suc i) n at once =
    let parts = sum_by-cons (λ y. one_if (nat_eq n y)) x order in
    let some = in-count order i n at in
    elim (cases_Bool (nat_eq n x)) [
      | inl here ↦ let one = ap one_if here in absurd (omega (arith, once, parts, some, one))
      | inr other ↦
          let none = ap one_if other in
          let rest = index-of order i n at (omega (arith, once, parts, none)) in
          ap (λ b. cond (not b) (1 + index_in order n) 0) other ∙ omega (arith, rest)
    ]

-- what stands at a index
at-index : (order : List ℕ) (n : ℕ) → index_in order n < length order → slice_get order (index_in order n) ≡ Some n
at-index [] n l = absurd (omega (arith, l))
at-index (x ∷ order) n l =
    elim (cases_Bool (nat_eq n x)) [
      | inl here ↦
          let first : index_in (x ∷ order) n ≡ 0 = ap (λ b. cond (not b) (1 + index_in order n) 0) here in
          ap (slice_get (x ∷ order)) first ∙ ap Some (sym (eqb-true n x here))
      | inr other ↦
          let next : index_in (x ∷ order) n ≡ suc (index_in order n) = ap (λ b. cond (not b) (1 + index_in order n) 0) other ∙ omega arith in
          ap (slice_get (x ∷ order)) next ∙ at-index order n (omega (arith, l, next))
    ]

abbrev pub OnTheWay : List ℕ → ℕ → (ℕ → Bool) → Type 0
OnTheWay order i done = (k : ℕ) → done k ≡ nat_lt (index_in order k) i

module _ (cs : List Change) (order : List ℕ) (allowed : IsAllowed cs order) where
  once : (n : ℕ) (c : Change) → slice_get cs n ≡ Some c → is_dropped cs c ≡ false → count_by (nat_eq n) order ≡ 1
  once n c at stays = allowed.each_once n ∙ count-undropped cs n c at ∙ ap (λ b. one_if (not b)) stays

  abbrev IsThere : ℕ → Type 0
  IsThere n = (c : Change) × (slice_get cs n ≡ Some c) × (is_dropped cs c ≡ false)

  -- what stands in the order is a change that is not dropped
  is-there : (i n : ℕ) → slice_get order i ≡ Some n → IsThere n
  is-there i n at =
      let some : 0 < count_by (λ d. nat_eq n d.0) (undropped cs) = omega (arith, in-count order i n at, allowed.each_once n) in
      elim (cases_lt n (length cs)) [
        | inl within ↦
            let c = has_at cs n within in (
              c.0,
              c.1,
              elim (cases_Bool (is_dropped cs c.0)) [
                | inl gone ↦ let none = count-undropped cs n c.0 c.1 ∙ ap (λ b. one_if (not b)) gone in absurd (omega (arith, some, none))
                | inr stays ↦ stays
              ],
            )
        | inr past ↦ absurd (omega (arith, some, count-past cs n past))
      ]

  earlier : (first : Numbered → Numbered → Bool) → Respects first cs order → (m n : ℕ) (d c : Change) → slice_get cs m ≡ Some d → is_dropped cs d ≡ false → slice_get cs n ≡ Some c → is_dropped cs c ≡ false → first (m, d) (n, c) ≡ true → index_in order m < index_in order n
  earlier first keeps m n d c at_m m_stays at_n n_stays comes = keeps.at m n d c at_m m_stays at_n n_stays comes

  pub allowed-step : (done : ℕ → Bool) (i n : ℕ) → OnTheWay order i done → slice_get order i ≡ Some n → (c : Change) × (slice_get cs n ≡ Some c) × (is_ready cs done (n, c) ≡ true)
  allowed-step done i n way at =
      let it = is-there i n at in
      let index : index_in order n ≡ i = index-of order i n at (once n it.0 it.1 it.2) in
      let fresh : done n ≡ false = way n ∙ le-ltb (index_in order n) i (omega (arith, index)) in
      let before : (m : ℕ) (d : Change) → slice_get cs m ≡ Some d → is_dropped cs d ≡ false → comes_first cs (m, d) (n, it.0) ≡ true → done m ≡ true = λ m d at_m stays comes.
      let less : index_in order m < index_in order n = elim (or_cases (owned_first cs (m, d) (n, it.0) || gap_first (m, d) (n, it.0)) (token_first (m, d) (n, it.0)) comes) [
        | inl two ↦ elim (or_cases (owned_first cs (m, d) (n, it.0)) (gap_first (m, d) (n, it.0)) two) [
          | inl owned ↦ earlier (owned_first cs) (respects_to (owned_first cs) cs order allowed.owned_changes_first) m n d it.0 at_m stays it.1 it.2 owned
          | inr gap ↦ earlier gap_first (respects_to gap_first cs order allowed.gaps_in_order) m n d it.0 at_m stays it.1 it.2 gap
        ]
        | inr token ↦ earlier token_first (respects_to token_first cs order allowed.tokens_last) m n d it.0 at_m stays it.1 it.2 token
      ] in
      way m ∙ lt-ltb (index_in order m) i (omega (arith, less, index)) in
      let all : list_all (λ d. not (comes_first cs d (n, it.0)) || done d.0) (undropped cs) ≡ true = all_undropped_from (λ d. not (comes_first cs d (n, it.0)) || done d.0) cs (λ m d at_m stays.
      elim (cases_Bool (comes_first cs (m, d) (n, it.0))) [
        | inl comes ↦ or_right (not (comes_first cs (m, d) (n, it.0))) (done m) (before m d at_m stays comes)
        | inr never ↦ or_left (not (comes_first cs (m, d) (n, it.0))) (done m) (not_from_false (comes_first cs (m, d) (n, it.0)) never)
      ]) in
      (it.0, it.1, and_from (not (is_dropped cs it.0) && not (done n)) _ (and_from (not (is_dropped cs it.0)) (not (done n)) (not_from_false (is_dropped cs it.0) it.2) (not_from_false (done n) fresh)) all)

  pub next-done : (done : ℕ → Bool) (i n : ℕ) → OnTheWay order i done → slice_get order i ≡ Some n → OnTheWay order (i + 1) (λ k. nat_eq n k || done k)
  next-done done i n way at = λ k.
      let it = is-there i n at in
      let index : index_in order n ≡ i = index-of order i n at (once n it.0 it.1 it.2) in
      elim (cases_eq n k) [
        | inl same ↦
            let here : index_in order k ≡ i = ap (index_in order) (sym same) ∙ index in
            or_left (nat_eq n k) (done k) (eq-eqb n k same) ∙ sym (lt-ltb (index_in order k) (i + 1) (omega (arith, here)))
        | inr other ↦
            let apart : index_in order k ≡ i → ⊥ = λ same. other (same_Some n k (sym at ∙ ap (slice_get order) (sym same) ∙ at-index order k (omega (arith, same, slice_get_within order i n at)))) in
            ap (λ b. b || done k) (ne_eqb n k other) ∙ way k ∙ (elim (cases_lt (index_in order k) i) [
              | inl less ↦ lt-ltb (index_in order k) i less ∙ sym (lt-ltb (index_in order k) (i + 1) (omega (arith, less)))
              | inr later ↦ le-ltb (index_in order k) i later ∙ sym (le-ltb (index_in order k) (i + 1) (omega (arith, later, apart)))
            ])
      ]

  pub allowed-complete : (done : ℕ → Bool) (i : ℕ) → length order ≤ i → OnTheWay order i done → is_complete cs done ≡ true
  allowed-complete done i end way =
      all_undropped_from (λ c. done c.0) cs (λ n c at stays. let one = once n c at stays in way n ∙ lt-ltb (index_in order n) i (omega (arith, end, found-index order n (omega (arith, one)))))
