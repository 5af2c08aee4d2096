-- The first number at which a test passes.
--     position-cons                 with one item more before the others
--     none-passes                   where there is none, no item passes
--     push-of-take                  so many items of a list, and the next
use Rattle.std.specs.Prelude.{◌≡◌, ℕ, suc, ◌+◌, ◌<◌, Bool, true, false, not, cond, nat_lt, List, [], ◌∷◌, ◌++◌, length, take, position, Option, Some, None, option_map, refl}
use Rattle.std.specs.List.{AllByRecursion, position_or_len}
use Rattle.std.proofs.Common.{ap, ap₂, sym, ◌∙◌, arith, get_or}
use Rattle.std.proofs.lemmas.Bool.{ltb-true, lt-ltb, cases_Bool}
use Rattle.std.proofs.lemmas.Option.{none-some}
use Rattle.std.proofs.Math.Seq.{take-suc}
use mathlib.Core.Logic.{inl, inr}

-- two tests that hold in the same cases are equal
pub same-test : (a b : Bool) → (a ≡ true → b ≡ true) → (b ≡ true → a ≡ true) → a ≡ b
same-test true b f g = sym (f refl)
same-test false true f g = g refl
same-test false false f g = refl

pub lt-step : (m n : ℕ) → nat_lt (suc m) (suc n) ≡ nat_lt m n
lt-step m n = same-test (nat_lt (suc m) (suc n)) (nat_lt m n) (λ h. lt-ltb m n (omega (arith, ltb-true (suc m) (suc n) h))) (λ h. lt-ltb (suc m) (suc n) (omega (arith, ltb-true m n h)))

below-length : (m n : ℕ) → cond (nat_lt (suc m) (suc n)) (Some (suc m)) None ≡ option_map suc (cond (nat_lt m n) (Some m) None)
below-length m n =
    ap (λ b. cond b (Some (suc m)) None) (lt-step m n) ∙ (elim (nat_lt m n) as (λ b. cond b (Some (suc m)) None ≡ option_map suc (cond b (Some m) None)) [ true ↦ refl | false ↦ refl ])

pub position-cons : {X : Type 0} (p : X → Bool) (x : X) (xs : List X) → position p (x ∷ xs) ≡ cond (p x) (Some 0) (option_map suc (position p xs))
position-cons p x xs =
    let after = position_or_len p xs in
    (elim (p x) as (λ b. cond (nat_lt (cond (not b) (1 + after) 0) (suc (length xs))) (Some (cond (not b) (1 + after) 0)) None ≡ cond b (Some 0) (option_map suc (cond (nat_lt after (length xs)) (Some after) None))) [
      | true ↦ ap (λ b. cond b (Some 0) None) (lt-ltb 0 (suc (length xs)) (omega arith))
      | false ↦ let e : 1 + after ≡ suc after = omega arith in ap (λ n. cond (nat_lt n (suc (length xs))) (Some n) None) e ∙ below-length after (length xs)
    ])

-- ---- no item passes
pub none-passes : {X : Type 0} (p : X → Bool) (xs : List X) → position p xs ≡ None → AllByRecursion (λ x. p x ≡ false) xs
none-passes p [] h = tt
none-passes p (x ∷ xs) h =
    elim (cases_Bool (p x)) [
      | inl passes ↦ absurd (none-some 0 (sym h ∙ position-cons p x xs ∙ ap (λ b. cond b (Some 0) (option_map suc (position p xs))) passes))
      | inr fails ↦ (fails, none-passes p xs (unmoved (position p xs) (sym (position-cons p x xs ∙ ap (λ b. cond b (Some 0) (option_map suc (position p xs))) fails) ∙ h)))
    ]
  where
    unmoved : (o : Option ℕ) → option_map suc o ≡ None → o ≡ None
    unmoved None e = refl
    unmoved (Some n) e = cc

pub all-fail : {X : Type 0} (p : X → Bool) (xs : List X) → AllByRecursion (λ x. p x ≡ false) xs → position p xs ≡ None
all-fail p [] a = refl
all-fail p (x ∷ xs) a =
    position-cons p x xs ∙ ap₂ (λ b o. cond b (Some 0) (option_map suc o)) a.0 (all-fail p xs a.1)

pub push-of-take : {X : Type 0} (n : ℕ) (xs : List X) (x : X) → n < length xs → x ≡ get_or xs n x → take (n + 1) xs ≡ take n xs ++ x ∷ []
push-of-take n xs x l is = let e : n + 1 ≡ suc n = omega arith in ap (λ k. take k xs) e ∙ take-suc xs n x l ∙ ap (λ y. take n xs ++ y ∷ []) (sym is)
