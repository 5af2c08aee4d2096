-- The first two that clash, by halving.
--     Halved                        two changes clash below a number, and none below a lesser one
--     second-found                  where the two numbers are one apart, the lesser is that of a second one
--     none-below, clash-there       none clash at all; the first two that do
use Rattle.std.specs.Prelude.{◌≡◌, ℕ, zero, suc, ◌+◌, ◌<◌, ◌≤◌, Bool, true, false, cond, List, map, find, length, Some, None, refl}
use Rattle.std.proofs.Common.{ap, sym, subst, ◌∙◌, arith}
use Rattle.std.proofs.lemmas.Bool.{cases_eq, cases_lt, false≢true}
use mathlib.Core.Logic.{inl, inr}
use Rattle.cst_core.specs.Path.{counted_from}
use Rattle.edit_change.specs.Nesting.{clashes, pairs_with, first_clash}
use Rattle.edit_change.specs.inner.Clash.{ClashesBelow}
use Rattle.edit_change.specs.declared.change.Change.{Change}
use Rattle.edit_change.proofs.Clashes.{until, clash, none-more, first-found}

pub record Halved (cs : List Change) (low high : ℕ) : Type 0 where
  pub less : low < high
  pub none : ClashesBelow cs low false
  pub some : ClashesBelow cs high true

pub second-found : (cs : List Change) (low high : ℕ) → Halved cs low high → high ≤ low + 1 → (i : ℕ) × (i < low) × (clashes cs i low ≡ true)
second-found cs low high halved near =
    let some = halved.some in
    elim (cases_lt some.1 low) [
      | inl less ↦ absurd (false≢true (sym (halved.none some.0 some.1 some.2 less) ∙ some.4))
      | inr past ↦
          let same : some.1 ≡ low = omega (arith, past, some.3, near) in
          (some.0, omega (arith, same, some.2), ap (clashes cs some.0) (sym same) ∙ some.4)
    ]

-- the first of some pairs
find-counted : {Y : Type 0} (test : Y → Bool) (f : ℕ → Y) (a n i : ℕ) → a ≤ i → i < a + n → ((j : ℕ) → a ≤ j → j < i → test (f j) ≡ false) → test (f i) ≡ true → find test (map f (counted_from a n)) ≡ Some (f i)
find-counted test f a zero i l m none here = absurd (omega (arith, l, m))
find-counted test f a (suc n) i l m none here =
    elim (cases_eq a i) [
      | inl same ↦ ap (λ b. cond b (Some (f a)) (find test (map f (counted_from (suc a) n)))) (ap (λ j. test (f j)) same ∙ here) ∙ ap (λ j. Some (f j)) same
      | inr other ↦
          let less : a < i = omega (arith, l, other) in
          ap (λ b. cond b (Some (f a)) (find test (map f (counted_from (suc a) n)))) (none a (omega arith) less) ∙ find-counted test f (suc a) n i less (omega (arith, m)) (λ j k h. none j (omega (arith, k)) h) here
    ]

find-nothing : {Y : Type 0} (test : Y → Bool) (f : ℕ → Y) (a n : ℕ) → ((j : ℕ) → a ≤ j → j < a + n → test (f j) ≡ false) → find test (map f (counted_from a n)) ≡ None
find-nothing test f a zero none = refl
find-nothing test f a (suc n) none =
    ap (λ b. cond b (Some (f a)) (find test (map f (counted_from (suc a) n)))) (none a (omega arith) (omega arith)) ∙ find-nothing test f (suc a) n (λ j l m. none j (omega (arith, l)) (omega (arith, m)))

none-until : (cs : List Change) (n : ℕ) → ClashesBelow cs n false → find (clash cs) (until (clash cs) pairs_with n) ≡ None
none-until cs zero none = refl
none-until cs (suc n) none =
    let e : n + 1 ≡ suc n = omega arith in
    ap (λ k. find (clash cs) (until (clash cs) pairs_with k)) (sym e) ∙ none-more (clash cs) pairs_with n (none-until cs n (λ i j l m. none i j l (omega (arith, m)))) (find-nothing (clash cs) (λ i. (i, n)) 0 n (λ j l m. none j n (omega (arith, m)) (omega arith)))

pub none-below : (cs : List Change) (n : ℕ) → n ≡ length cs → ClashesBelow cs n false → None ≡ first_clash cs
none-below cs n long none = sym (none-until cs (length cs) (subst (λ k. ClashesBelow cs k false) long none))

pub clash-there : (cs : List Change) (i j : ℕ) → j < length cs → i < j → ClashesBelow cs j false → clashes cs i j ≡ true → ((k : ℕ) → k < i → clashes cs k j ≡ false) → Some (i, j) ≡ first_clash cs
clash-there cs i j l m none here first =
    sym (first-found (clash cs) pairs_with j (length cs) (i, j) l (none-until cs j none) (find-counted (clash cs) (λ k. (k, j)) 0 j i (omega arith) (omega (arith, m)) (λ k a h. first k h) here))
