-- The first of many lists, one after another, in which something passes a test.
--     none-more, first-found        nothing in one more list; something in the next
--     clashes-at, at-index          two changes of a list
use Rattle.std.specs.Prelude.{◌≡◌, ℕ, zero, suc, ◌+◌, ◌-◌, ◌<◌, Bool, false, List, [], ◌∷◌, ◌++◌, length, flat_map, find, slice_get, Some, None}
use Rattle.std.specs.Option.{option_or, option_map_or}
use Rattle.std.proofs.Common.{ap, ap₂, sym, ◌∙◌, arith, get_or}
use Rattle.std.proofs.lemmas.Option.{slice_get-get_or}
use Rattle.std.proofs.lemmas.List.{append-nil}
use Rattle.std.proofs.lemmas.List.Folds.{find-append}
use Rattle.std.proofs.lemmas.Grind.{flat_map-append}
use Rattle.cst_core.specs.Path.{counted_from}
use Rattle.edit_change.specs.Change.{shared_targets}
use Rattle.edit_change.specs.Nesting.{clashes}
use Rattle.edit_change.specs.declared.change.Change.{Change}

pub counted-push : (a n : ℕ) → counted_from a (suc n) ≡ counted_from a n ++ (a + n) ∷ []
counted-push a zero = let e : a ≡ a + 0 = omega arith in ap (λ k. k ∷ []) e
counted-push a (suc n) =
    let e : suc a + n ≡ a + suc n = omega arith in
    ap (λ ks. a ∷ ks) (counted-push (suc a) n ∙ ap (λ k. counted_from (suc a) n ++ k ∷ []) e)

module _ {Y : Type 0} (test : Y → Bool) (g : ℕ → List Y) where
  abbrev pub until : ℕ → List Y
  until n = flat_map g (counted_from 0 n)

  until-suc : (n : ℕ) → until (suc n) ≡ until n ++ g n
  until-suc n =
      let e : 0 + n ≡ n = omega arith in
      ap (flat_map g) (counted-push 0 n) ∙ flat_map-append g (counted_from 0 n) ((0 + n) ∷ []) ∙ ap (λ ys. until n ++ ys) (append-nil (g (0 + n)) ∙ ap g e)

  find-suc : (n : ℕ) → find test (until (suc n)) ≡ option_or (find test (until n)) (find test (g n))
  find-suc n = ap (find test) (until-suc n) ∙ find-append test (until n) (g n)

  pub none-more : (n : ℕ) → find test (until n) ≡ None → find test (g n) ≡ None → find test (until (n + 1)) ≡ None
  none-more n before here =
      let e : n + 1 ≡ suc n = omega arith in
      ap (λ k. find test (until k)) e ∙ find-suc n ∙ ap₂ option_or before here

  found-on : (n k : ℕ) (y : Y) → find test (until n) ≡ Some y → find test (until (n + k)) ≡ Some y
  found-on n zero y h = let e : n + 0 ≡ n = omega arith in ap (λ k. find test (until k)) e ∙ h
  found-on n (suc k) y h =
      let e : n + suc k ≡ suc (n + k) = omega arith in
      ap (λ k. find test (until k)) e ∙ find-suc (n + k) ∙ ap (λ o. option_or o (find test (g (n + k)))) (found-on n k y h)

  pub first-found : (n m : ℕ) (y : Y) → n < m → find test (until n) ≡ None → find test (g n) ≡ Some y → find test (until m) ≡ Some y
  first-found n m y l before here =
      let e : m ≡ suc n + (m - suc n) = omega (arith, l) in
      ap (λ k. find test (until k)) e ∙ found-on (suc n) (m - suc n) y (find-suc n ∙ ap₂ option_or before here)

-- ---- the pairs of changes
abbrev pub clash : List Change → ℕ × ℕ → Bool
clash cs p = clashes cs p.0 p.1

-- two changes of a list
pub clashes-at : (cs : List Change) (i j : ℕ) (c d : Change) → slice_get cs i ≡ Some c → slice_get cs j ≡ Some d → shared_targets c d ≡ clashes cs i j
clashes-at cs i j c d at_i at_j =
    sym (ap₂ (λ x y. option_map_or (λ e. option_map_or (shared_targets e) y false) x false) at_i at_j)

pub at-index : (cs : List Change) (i : ℕ) (c : Change) → i < length cs → c ≡ get_or cs i c → slice_get cs i ≡ Some c
at-index cs i c l is = slice_get-get_or cs i c l ∙ ap Some (sym is)
