-- A stack of what is left to visit below a path.
use Rattle.std.proofs.Common.{◌≡◌, ℕ, zero, suc, ◌+◌, ◌≤◌, List, [], ◌∷◌, ◌++◌, length, take, refl, ap, sym, ◌∙◌, arith, length-append}
use Rattle.std.proofs.lemmas.List.{take_all, take-append-le, length-take}
use Rattle.green_tree.specs.inner.Stacked.{AreStacked}

module _ {X : Type 0} (depth : X → ℕ) (P : X → Type 0) where
  pub stack_low : (low high : ℕ) (xs : List X) → AreStacked depth P low high xs → low ≤ high
  stack_low low high [] h = h
  stack_low low high (x ∷ xs) h =
      let rest = stack_low (depth x) high xs h.1.1 in
      let first = h.0 in
      omega arith

  stack_from : (low mid high : ℕ) (xs : List X) → low ≤ mid → AreStacked depth P mid high xs → AreStacked depth P low high xs
  stack_from low mid high [] h is = omega arith
  stack_from low mid high (x ∷ xs) h is =
      let first = is.0 in
      (omega arith, is.1)

  pub stack_append : (low mid high : ℕ) (xs ys : List X) → AreStacked depth P low mid xs → AreStacked depth P mid high ys → AreStacked depth P low high (xs ++ ys)
  stack_append low mid high [] ys is more = stack_from low mid high ys is more
  stack_append low mid high (x ∷ xs) ys is more = (is.0, (is.1.0, stack_append (depth x) mid high xs ys is.1.1 more))

  pub stack_up_to : (low mid high : ℕ) (xs : List X) → AreStacked depth P low mid xs → mid ≤ high → AreStacked depth P low high xs
  stack_up_to low mid high [] is h = omega arith
  stack_up_to low mid high (x ∷ xs) is h = (is.0, (is.1.0, stack_up_to (depth x) mid high xs is.1.1 h))

  pub stack_rest : (low high : ℕ) (xs : List X) (x : X) → AreStacked depth P low high (xs ++ x ∷ []) → AreStacked depth P low (depth x) xs
  stack_rest low high [] x is = is.0
  stack_rest low high (y ∷ xs) x is = (is.0, (is.1.0, stack_rest (depth y) high xs x is.1.1))

  pub stack_last : (low high : ℕ) (xs : List X) (x : X) → AreStacked depth P low high (xs ++ x ∷ []) → P x × (depth x ≤ high)
  stack_last low high [] x is = (is.1.0, is.1.1)
  stack_last low high (y ∷ xs) x is = stack_last (depth y) high xs x is.1.1

-- ---- the front of a path
pub take_fewer : {X : Type 0} (m n : ℕ) (xs : List X) → m ≤ n → take m xs ≡ take m (take n xs)
take_fewer zero n xs h = refl
take_fewer (suc m) zero xs h = absurd (omega arith)
take_fewer (suc m) (suc n) [] h = refl
take_fewer (suc m) (suc n) (x ∷ xs) h = ap (λ ys. x ∷ ys) (take_fewer m n xs (omega arith))

-- a path that is cut and then goes on is as deep as that, and begins as before
pub take_length : {X : Type 0} (n : ℕ) (path way : List X) (x : X) → n ≤ length path → way ≡ take n path ++ x ∷ [] → length way ≡ n + 1
take_length n path way x h is = ap length is ∙ omega (arith, length-append (take n path) (x ∷ []), length-take n path)

pub take_front : {X : Type 0} (n : ℕ) (path way : List X) (x : X) → n ≤ length path → way ≡ take n path ++ x ∷ [] → take n path ≡ take n way
take_front n path way x h is =
    let front = take n path in
    let short : length front ≡ n = omega (arith, length-take n path) in
    sym (take_all n front (omega arith)) ∙ sym (take-append-le n front (x ∷ []) (omega arith)) ∙ ap (take n) (sym is)
