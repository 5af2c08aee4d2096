-- The start of a line is told by its number, and the line of an offset too.
use Rattle.std.proofs.Common.{◌≡◌, ◌+◌, ◌<◌, ◌≤◌, ℕ, Bool, true, false, cond, zero, suc, List, [], ◌∷◌, length, get_or, ap, ◌∙◌, arith, inl, inr}
use Rattle.std.specs.Prelude.{◌==◌}
use Rattle.std.proofs.lemmas.Bool.{cases_order}
use Rattle.text_edit.specs.Lines.{newline, starts_from, line_starts, IsAt}
use Rattle.text_edit.specs.declared.line_index.LineCol.{LineCol}

-- numbers that do not fall, from one on
abbrev AreRising : ℕ → List ℕ → Type 0
AreRising from [] = Unit {0}
AreRising from (x ∷ xs) = (from ≤ x) × AreRising x xs

AreRising-earlier : (from earlier : ℕ) (xs : List ℕ) → earlier ≤ from → AreRising from xs → AreRising earlier xs
AreRising-earlier from earlier [] le rising = tt
AreRising-earlier from earlier (x ∷ xs) le rising = (omega (arith, rising.0), rising.1)

rising-cond : (b : Bool) (at : ℕ) (xs : List ℕ) → AreRising (at + 1) xs → AreRising at (cond b ((at + 1) ∷ xs) xs)
rising-cond true at xs rising = (omega arith, rising)
rising-cond false at xs rising = AreRising-earlier (at + 1) at xs (omega arith) rising

rising-starts : (at : ℕ) (bs : List ℕ) → AreRising at (starts_from at bs)
rising-starts at [] = tt
rising-starts at (b ∷ bs) = rising-cond (b == newline) at (starts_from (at + 1) bs) (rising-starts (at + 1) bs)

rising-from : (from : ℕ) (xs : List ℕ) (j : ℕ) → j < length xs → AreRising from xs → from ≤ get_or xs j 0
rising-from from [] j inside rising = absurd (omega arith)
rising-from from (x ∷ xs) zero inside rising = rising.0
rising-from from (x ∷ xs) (suc j) inside rising = let within : j < length xs = omega arith in let rest : x ≤ get_or xs j 0 = rising-from x xs j within rising.1 in omega (arith, rising.0)

rising-at : (from : ℕ) (xs : List ℕ) (i j : ℕ) → i ≤ j → j < length xs → AreRising from xs → get_or xs i 0 ≤ get_or xs j 0
rising-at from [] i j le inside rising = absurd (omega arith)
rising-at from (x ∷ xs) zero zero le inside rising = omega arith
rising-at from (x ∷ xs) zero (suc j) le inside rising = rising-from x xs j (omega arith) rising.1
rising-at from (x ∷ xs) (suc i) zero le inside rising = absurd (omega arith)
rising-at from (x ∷ xs) (suc i) (suc j) le inside rising = rising-at x xs i j (omega arith) (omega arith) rising.1

not-before : (s : List ℕ) (p q : LineCol) (n : ℕ) → p.line < q.line → IsAt s p n → IsAt s q n → ⊥
not-before s p q n less at at' =
    let inside : p.line + 1 < length (line_starts s) = omega (arith, at'.line) in
    let next : n < get_or (line_starts s) (p.line + 1) 0 = at.before inside in
    let order : get_or (line_starts s) (p.line + 1) 0 ≤ get_or (line_starts s) q.line 0 = rising-at 0 (line_starts s) (p.line + 1) q.line (omega arith) at'.line (omega arith, rising-starts 0 s) in
    let from : n ≡ get_or (line_starts s) q.line 0 + q.col = at'.col in
    omega arith

pub IsAt-only : (s : List ℕ) (p q : LineCol) (n : ℕ) → IsAt s p n → IsAt s q n → q ≡ p
IsAt-only s p q n at at' =
    elim (cases_order q.line p.line) [
      | inl same ↦ (let start : get_or (line_starts s) q.line 0 ≡ get_or (line_starts s) p.line 0 = ap (λ k. get_or (line_starts s) k 0) same in
          let from : n ≡ get_or (line_starts s) p.line 0 + p.col = at.col in
          let from' : n ≡ get_or (line_starts s) q.line 0 + q.col = at'.col in
          let cols : q.col ≡ p.col = omega arith in
          ap (λ (k : ℕ). record { line = k; col = q.col }) same ∙ ap (λ (k : ℕ). record { line = p.line; col = k }) cols)
      | inr other ↦ elim other [ inl less ↦ absurd (not-before s q p n less at' at) | inr less ↦ absurd (not-before s p q n less at at') ]
    ]
