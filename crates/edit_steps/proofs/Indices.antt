-- Where each number stands in an order, as code finds it from the last index to the first.
--     index-past                     nowhere, before the last index
--     index-put, index-kept          one index more, of a number that is looked for, and of another one
use Rattle.std.specs.Prelude.{◌≡◌, ℕ, ◌+◌, ◌<◌, ◌≤◌, cond, not, nat_eq, List, length, slice_index, slice_set}
use Rattle.std.specs.List.{position_or_len}
use Rattle.std.proofs.Common.{ap, sym, subst, ◌∙◌, arith, drop, get_or, get_or-set_same, get_or-set_other}
use Rattle.std.proofs.lemmas.Bool.{cases_eq, eq-eqb, ne_eqb}
use Rattle.std.proofs.lemmas.List.{drop_all, drop_more}
use mathlib.Core.Logic.{inl, inr}

pub index-past : (order : List ℕ) (k n : ℕ) → length order ≤ k → position_or_len (nat_eq n) (drop k order) ≡ 0
index-past order k n past = ap (position_or_len (nat_eq n)) (drop_all k order past)

module _ (order : List ℕ) (k x : ℕ) (l : k < length order) (is : x ≡ get_or order k 0) where
  this : position_or_len (nat_eq x) (drop k order) ≡ 0
  this =
      ap (position_or_len (nat_eq x)) (drop_more order k 0 l)
      ∙ ap (λ b. cond (not b) (1 + position_or_len (nat_eq x) (drop (k + 1) order)) 0) (eq-eqb x (get_or order k 0) is)

  other : (n : ℕ) → (n ≡ x → ⊥) → position_or_len (nat_eq n) (drop k order) ≡ 1 + position_or_len (nat_eq n) (drop (k + 1) order)
  other n apart =
      ap (position_or_len (nat_eq n)) (drop_more order k 0 l)
      ∙ ap (λ b. cond (not b) (1 + position_or_len (nat_eq n) (drop (k + 1) order)) 0) (ne_eqb n (get_or order k 0) (λ e. apart (e ∙ sym is)))

  module _ (count : ℕ) (xs : List ℕ) (kept : (n : ℕ) → n < count → slice_index xs n ≡ (k + 1) + position_or_len (nat_eq n) (drop (k + 1) order)) where
    pub index-put : x < length xs → (n : ℕ) → n < count → slice_index (slice_set xs x k) n ≡ k + position_or_len (nat_eq n) (drop k order)
    index-put within n less =
        elim (cases_eq n x) [
          | inl same ↦
              subst (λ m. slice_index (slice_set xs x k) m ≡ k + position_or_len (nat_eq m) (drop k order)) (sym same)
              (omega (arith, get_or-set_same xs x k 0 within, this))
          | inr apart ↦ omega (arith, get_or-set_other xs x n k 0 apart, kept n less, other n apart)
        ]

    pub index-kept : count ≤ x → (n : ℕ) → n < count → slice_index xs n ≡ k + position_or_len (nat_eq n) (drop k order)
    index-kept past n less = let apart : n ≡ x → ⊥ = λ e. omega (arith, e, past, less) in omega (arith, kept n less, other n apart)
