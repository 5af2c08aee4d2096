-- How much stands before a slot, and how it changes.
--     total_upto                     it depends only on how much stands in each place before
--     total_next, total_most         one slot more; it grows from slot to slot
--     pushed_rest                    a list with one more of what is past its end
--     total_past, total_rest         past the end of a list each place holds one
--     gone_before, gone_inside, gone_past      before the children that are taken away, among them, and past them
--     gone_none, gone_other          none at first; one child more makes a difference at this child alone
--     taken_next, taken_put          where children are taken away: one child more; what comes in their place
--     total_taken                    none before the first of them changes what stands there
--     gap_put                        a gap that holds more
use Rattle.std.specs.Prelude.{◌≡◌, ◌≢◌, ℕ, zero, suc, ◌+◌, ◌-◌, ◌<◌, ◌≤◌, Bool, true, false, cond, nat_lt, List, [], ◌∷◌, ◌++◌, length, slice_set, refl}
use Rattle.std.proofs.Common.{ap, ap₂, sym, subst, subst₂, ◌∙◌, arith, get_or, add-one, get_or-set_same, get_or-set_other}
use Rattle.std.proofs.lemmas.Bool.{cases_eq, cases_lt, lt-ltb, le-ltb, eq-eqb, ne_eqb}
use Rattle.std.proofs.lemmas.List.{get_or_past, get_or_default}
use mathlib.Core.Logic.{inl, inr}
use Rattle.edit_steps.specs.declared.stage.among.Among.{Among}
use Rattle.edit_steps.specs.inner.Widths.{total, width_in, gap_in, index_of, count_of, gone_at, come_at}

pub total_upto : (f g : ℕ → ℕ) (k : ℕ) → ((i : ℕ) → i < k → f i ≡ g i) → (i : ℕ) → i ≤ k → total f i ≡ total g i
total_upto f g k same zero l = refl
total_upto f g k same (suc i) l = ap₂ (λ a b. a + b) (total_upto f g k same i (omega arith)) (same i (omega arith))

pub total_next : (f : ℕ → ℕ) (i : ℕ) → total f (i + 1) ≡ total f i + f i
total_next f i = ap (total f) (add-one i)

pub total_most : (f : ℕ → ℕ) (i j : ℕ) → i ≤ j → total f i ≤ total f j
total_most f i zero l = let same : i ≡ 0 = omega arith in let e = ap (total f) same in omega (arith, e)
total_most f i (suc j) l =
    elim (cases_eq i (suc j)) [
      | inl same ↦ let e = ap (total f) same in omega (arith, e)
      | inr other ↦ omega (arith, total_most f i j (omega arith))
    ]

pub pushed_rest : {X : Type 0} (xs : List X) (r : X) (i : ℕ) → get_or (xs ++ r ∷ []) i r ≡ get_or xs i r
pushed_rest [] r zero = refl
pushed_rest [] r (suc i) = refl
pushed_rest (x ∷ xs) r zero = refl
pushed_rest (x ∷ xs) r (suc i) = pushed_rest xs r i

pub total_past : (ws : List ℕ) (i n : ℕ) → length ws ≤ i → total (width_in ws) (i + n) ≡ total (width_in ws) i + n
total_past ws i zero l = let e : i + 0 ≡ i = omega arith in omega (arith, ap (total (width_in ws)) e)
total_past ws i (suc n) l =
    let e : i + suc n ≡ suc (i + n) = omega arith in
    let next = ap (total (width_in ws)) e in
    let one = get_or_past ws (i + n) 1 (omega (arith, l)) in
    omega (arith, next, one, total_past ws i n l)

pub total_rest : (ws : List ℕ) (i to : ℕ) → i ≤ to → (i < to → length ws ≤ i) → total (width_in ws) i + (to - i) ≡ total (width_in ws) to
total_rest ws i to l past =
    elim (cases_lt i to) [
      | inl less ↦
          let e : i + (to - i) ≡ to = omega (arith, l) in
          sym (total_past ws i (to - i) (past less)) ∙ ap (total (width_in ws)) e
      | inr most ↦
          let same : i ≡ to = omega (arith, l, most) in
          let e = ap (total (width_in ws)) same in
          omega (arith, e, same)
    ]

-- ---- children that are taken away
abbrev pub gone_from : ℕ → ℕ → ℕ → ℕ
gone_from first slot i = cond (nat_lt i first) 0 (cond (nat_lt i slot) 1 0)

pub gone_before : (first slot i : ℕ) → i < first → gone_from first slot i ≡ 0
gone_before first slot i less = ap (λ a. cond a 0 (cond (nat_lt i slot) 1 0)) (lt-ltb i first less)

pub gone_inside : (first slot i : ℕ) → first ≤ i → i < slot → gone_from first slot i ≡ 1
gone_inside first slot i from less = ap₂ (λ a b. cond a 0 (cond b 1 0)) (le-ltb i first from) (lt-ltb i slot less)

pub gone_past : (first slot i : ℕ) → first ≤ i → slot ≤ i → gone_from first slot i ≡ 0
gone_past first slot i from past = ap₂ (λ a b. cond a 0 (cond b 1 0)) (le-ltb i first from) (le-ltb i slot past)

pub gone_none : (first i : ℕ) → gone_from first first i ≡ 0
gone_none first i = alike (nat_lt i first)
  where
    alike : (b : Bool) → ◌≡◌ {A = ℕ} (cond b 0 (cond b 1 0)) 0
    alike true = refl
    alike false = refl

pub gone_other : (first slot i : ℕ) → slot ≢ i → gone_from first (slot + 1) i ≡ gone_from first slot i
gone_other first slot i apart =
    ap (λ b. cond (nat_lt i first) 0 (cond b 1 0))
    (elim (cases_lt i slot) [
      | inl less ↦ lt-ltb i (slot + 1) (omega (arith, less)) ∙ sym (lt-ltb i slot less)
      | inr most ↦ le-ltb i (slot + 1) (omega (arith, most, apart)) ∙ sym (le-ltb i slot most)
    ])

abbrev IsTaken : List ℕ → (ℕ → ℕ) → ℕ → ℕ → Type 0
IsTaken ws before first slot = (i : ℕ) → width_in ws i + gone_from first slot i ≡ before i

module _ (ws : List ℕ) (before : ℕ → ℕ) (first slot x : ℕ) (taken : IsTaken ws before first slot) where
  pub taken_next : first ≤ slot → slot < length ws → x ≡ get_or ws slot x → 1 ≤ x → IsTaken (slice_set ws slot (x - 1)) before first (slot + 1)
  taken_next from within is some i =
      elim (cases_eq slot i) [
        | inl same ↦
            let here = get_or-set_same ws slot (x - 1) 1 within in
            let gone = gone_inside first (slot + 1) slot from (omega arith) in
            let was = is ∙ get_or_default ws slot x 1 within in
            let there = gone_past first slot slot from (omega arith) in
            subst (λ j. width_in (slice_set ws slot (x - 1)) j + gone_from first (slot + 1) j ≡ before j) same
            (omega (arith, here, gone, was, there, taken slot, some))
        | inr apart ↦
            ap₂ (λ a b. a + b) (get_or-set_other ws slot i (x - 1) 1 (λ e. apart (sym e))) (gone_other first slot i apart) ∙ taken i
      ]

  pub taken_put : (w i : ℕ) → first < length ws → x ≡ get_or ws first x
      → width_in (slice_set ws first (x + w)) i + gone_from first slot i ≡ before i + come_at first w i
  taken_put w i within is =
      elim (cases_eq first i) [
        | inl same ↦
            let here = get_or-set_same ws first (x + w) 1 within in
            let was = is ∙ get_or_default ws first x 1 within in
            let come : come_at first w first ≡ w = ap (λ b. cond b w 0) (eq-eqb first first refl) in
            subst (λ j. width_in (slice_set ws first (x + w)) j + gone_from first slot j ≡ before j + come_at first w j) same
            (omega (arith, here, was, come, taken first))
        | inr apart ↦
            let there = get_or-set_other ws first i (x + w) 1 (λ e. apart (sym e)) in
            let come : come_at first w i ≡ 0 = ap (λ b. cond b w 0) (ne_eqb i first (λ e. apart (sym e))) in
            omega (arith, there, come, taken i)
      ]

  pub taken_most : first < length ws → x ≡ get_or ws first x → x ≤ before first
  taken_most within is = omega (arith, is ∙ get_or_default ws first x 1 within, taken first)

  pub total_taken : (at : ℕ) → at ≤ first → total before at ≡ total (width_in (slice_set ws first x)) at
  total_taken = total_upto before (width_in (slice_set ws first x)) first (λ i less.
      let there = get_or-set_other ws first i x 1 (omega (arith, less)) in
      omega (arith, there, taken i, gone_before first slot i less))

module _ (ws : List ℕ) (before : ℕ → ℕ) (at : Among) (first count slot x : ℕ) (i : first ≡ index_of at) (n : count ≡ count_of at) (taken : IsTaken ws before first slot) where
  pub some_left : ((i : ℕ) → gone_at (index_of at) (count_of at) i ≤ before i) → first ≤ slot → slot < first + count
      → slot < length ws → x ≡ get_or ws slot x → 1 ≤ x
  some_left there from less within is =
      let gone = gone_inside (index_of at) (index_of at + count_of at) slot (omega (arith, from, i)) (omega (arith, less, i, n)) in
      let none = gone_past first slot slot from (omega arith) in
      omega (arith, is ∙ get_or_default ws slot x 1 within, taken slot, none, there slot, gone)

  pub taken_all : (w : ℕ) → slot ≡ first + count → first < length ws → x ≡ get_or ws first x
      → (j : ℕ) → width_in (slice_set ws first (x + w)) j + gone_at (index_of at) (count_of at) j ≡ before j + come_at (index_of at) w j
  taken_all w end within is j =
      subst₂ (λ a b. width_in (slice_set ws first (x + w)) j + gone_at a b j ≡ before j + come_at a w j) i n
      (subst (λ k. width_in (slice_set ws first (x + w)) j + gone_from first k j ≡ before j + come_at first w j) end
      (taken_put ws before first slot x taken w j within is))

pub gap_put : (gs : List ℕ) (g x w i : ℕ) → g < length gs → x ≡ get_or gs g x → gap_in (slice_set gs g (x + w)) i ≡ gap_in gs i + come_at g w i
gap_put gs g x w i within is =
    elim (cases_eq g i) [
      | inl same ↦
          let here = get_or-set_same gs g (x + w) 0 within in
          let was = is ∙ get_or_default gs g x 0 within in
          let come : come_at g w g ≡ w = ap (λ b. cond b w 0) (eq-eqb g g refl) in
          subst (λ j. gap_in (slice_set gs g (x + w)) j ≡ gap_in gs j + come_at g w j) same (omega (arith, here, was, come))
      | inr apart ↦
          let there = get_or-set_other gs g i (x + w) 0 (λ e. apart (sym e)) in
          let come : come_at g w i ≡ 0 = ap (λ b. cond b w 0) (ne_eqb i g (λ e. apart (sym e))) in
          omega (arith, there, come)
    ]
