-- A plan's changes, as its pass is told of them.
--     independents-to                  the changes without an owner, of the first so many
--     one-more, one-passed             one change more
--     independent-at, passed-at        whether the change at a number has no owner, from its fate; one that has is passed over
use Rattle.std.specs.Prelude.{◌≡◌, ℕ, zero, suc, ◌+◌, ◌<◌, ◌≤◌, Bool, true, false, cond, not, ◌&&◌, List, [], ◌∷◌, ◌++◌, map, filter, filter_map, length, take, slice_get, Option, Some, None, option_map, is_none, refl}
use Rattle.std.specs.List.{enumerate_from}
use Rattle.std.proofs.Common.{ap, sym, subst, ◌∙◌, arith, get_or}
use Rattle.std.proofs.lemmas.List.{map-append, append-nil, length-map, length-take}
use Rattle.std.proofs.lemmas.List.Elements.{filter-append}
use Rattle.std.proofs.lemmas.Option.{same_Some, none-some, slice_get-get_or, slice_get_within, slice_get-map, get_or_from_slice_get}
use Rattle.std.proofs.Math.Seq.{take-suc}
use Rattle.cst_core.specs.Path.{last_item}
use Rattle.cst_core.specs.Tree as tree
use Rattle.cst_core.specs.declared.element.SyntaxElement.TheVariants.{Token}
use Rattle.edit_change.specs.Rewriting.{NumberedAim}
use Rattle.edit_change.specs.ChangeAim.{aim}
use Rattle.edit_change.specs.inner.Fate.{by_owner, fate}
use Rattle.edit_change.specs.Nesting.{surroundings, region_at, is_dropped, is_independent}
use Rattle.edit_change.specs.NewTree.{change_aims, independents}
use Rattle.edit_change.specs.declared.change.Change.{Change}
use Rattle.edit_change.specs.declared.change.Change.TheVariants.{ReplaceWithMany}
use Rattle.edit_change.specs.declared.fate.Fate.{Fate}
use Rattle.edit_change.specs.declared.fate.Fate.TheVariants.{Independent, Dropped}

-- ---- the changes without an owner, of the first so many
abbrev pub independents-to : List Change → ℕ → List NumberedAim
independents-to cs n = change_aims (filter (λ d. is_independent cs d.1) (enumerate_from 0 (take n cs)))

pub enumerate-push : {X : Type 0} (k : ℕ) (xs : List X) (x : X) → enumerate_from k (xs ++ x ∷ []) ≡ enumerate_from k xs ++ (k + length xs, x) ∷ []
enumerate-push k [] x = let e : k ≡ k + 0 = omega arith in ap (λ n. (n, x) ∷ []) e
enumerate-push k (y ∷ xs) x =
    let e : (k + 1) + length xs ≡ k + suc (length xs) = omega arith in
    ap (λ ds. (k, y) ∷ ds) (enumerate-push (k + 1) xs x ∙ ap (λ n. enumerate_from (k + 1) xs ++ (n, x) ∷ []) e)

module _ (cs : List Change) (i : ℕ) (c : Change) (l : i < length cs) (is : c ≡ get_or cs i c) where
  one-further : independents-to cs (i + 1) ≡ independents-to cs i ++ cond (is_independent cs c) ((i, aim c) ∷ []) []
  one-further =
      let more : take (i + 1) cs ≡ take i cs ++ c ∷ [] = let n : i + 1 ≡ suc i = omega arith in ap (λ k. take k cs) n ∙ take-suc cs i c l ∙ ap (λ x. take i cs ++ x ∷ []) (sym is) in
      let long : 0 + length (take i cs) ≡ i = omega (arith, length-take i cs, l) in
      let pair : ℕ × Change = (i, c) in
      let test : ℕ × Change → Bool = λ d. is_independent cs d.1 in
      let listed : enumerate_from 0 (take (i + 1) cs) ≡ enumerate_from 0 (take i cs) ++ pair ∷ [] = ap (enumerate_from 0) more ∙ enumerate-push 0 (take i cs) c ∙ ap (λ n. enumerate_from 0 (take i cs) ++ (n, c) ∷ []) long in
      let last : change_aims (filter test (pair ∷ [])) ≡ cond (is_independent cs c) ((i, aim c) ∷ []) [] = elim (is_independent cs c) as (λ b. change_aims (cond b (pair ∷ []) []) ≡ cond b ((i, aim c) ∷ []) []) [ true ↦ refl | false ↦ refl ] in
      ap (λ xs. change_aims (filter test xs)) listed ∙ ap change_aims (filter-append test (enumerate_from 0 (take i cs)) (pair ∷ [])) ∙ map-append (λ d. (d.0, aim d.1)) (filter test (enumerate_from 0 (take i cs))) (filter test (pair ∷ [])) ∙ ap (λ xs. independents-to cs i ++ xs) last

  pub one-more : is_independent cs c ≡ true → independents-to cs (i + 1) ≡ independents-to cs i ++ (i, aim c) ∷ []
  one-more free = one-further ∙ ap (λ b. independents-to cs i ++ cond b ((i, aim c) ∷ []) []) free

  pub one-passed : is_independent cs c ≡ false → independents-to cs (i + 1) ≡ independents-to cs i
  one-passed other = one-further ∙ ap (λ b. independents-to cs i ++ cond b ((i, aim c) ∷ []) []) other ∙ append-nil (independents-to cs i)

pub take-whole : {X : Type 0} (n : ℕ) (xs : List X) → length xs ≤ n → take n xs ≡ xs
take-whole zero [] l = refl
take-whole zero (x ∷ xs) l = absurd (omega (arith, l))
take-whole (suc n) [] l = refl
take-whole (suc n) (x ∷ xs) l = ap (λ ys. x ∷ ys) (take-whole n xs (omega (arith, l)))

pub independents-whole : (cs : List Change) (n : ℕ) → length cs ≤ n → independents-to cs n ≡ independents cs
independents-whole cs n l = ap (λ xs. change_aims (filter (λ d. is_independent cs d.1) (enumerate_from 0 xs))) (take-whole n cs l)

-- ---- what a fate says
abbrev pub is_independent_in : Fate → Bool
is_independent_in Independent = true
is_independent_in _ = false

pub independent-in-fate : (cs : List Change) (c : Change) → is_independent_in (fate cs c) ≡ is_independent cs c
independent-in-fate cs c = go (is_dropped cs c) (last_item (filter_map (region_at cs) (surroundings c)))
  where
    go : (b : Bool) (o : Option ℕ) → is_independent_in (cond b Dropped (by_owner (cond b None o))) ≡ (not b && is_none (cond b None o))
    go true o = refl
    go false None = refl
    go false (Some d) = refl

pub independent-at : (cs : List Change) (fates : List Fate) (i : ℕ) (c : Change) (f : Fate) → fates ≡ map (fate cs) cs → slice_get cs i ≡ Some c → is_independent_in (get_or fates i f) ≡ is_independent cs c
independent-at cs fates i c f are at_i =
    let there : i < length fates = subst (λ n. i < n) (sym (ap length are ∙ length-map cs (fate cs))) (slice_get_within cs i c at_i) in
    ap is_independent_in (same_Some (get_or fates i f) (fate cs c) (sym (slice_get-get_or fates i f there) ∙ ap (λ xs. slice_get xs i) are ∙ slice_get-map (fate cs) cs i ∙ ap (option_map (fate cs)) at_i)) ∙ independent-in-fate cs c

pub passed-at : (cs : List Change) (fates : List Fate) (i : ℕ) (f : Fate) → fates ≡ map (fate cs) cs → i < length cs → is_independent_in (get_or fates i f) ≡ false → independents-to cs (i + 1) ≡ independents-to cs i
passed-at cs fates i f are l other = go (slice_get cs i) refl
  where
    unused : Change
    unused = ReplaceWithMany (Token (record { number = 0; root = tree.Token 0 []; path = [] })) []

    go : (o : Option Change) → slice_get cs i ≡ o → independents-to cs (i + 1) ≡ independents-to cs i
    go None is = absurd (none-some (get_or cs i unused) (sym (sym (slice_get-get_or cs i unused l) ∙ is)))
    go (Some c) is = one-passed cs i c l (sym (get_or_from_slice_get cs i c c is)) (sym (independent-at cs fates i c f are is) ∙ other)
