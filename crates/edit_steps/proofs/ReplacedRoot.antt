-- What stands in the place of the root at a stage.
--     only-at                        what replaces a path, of the changes that are done
--     root-replaced, root-kept       the change that replaces the root is done; it is not
use Rattle.std.specs.Prelude.{◌≡◌, ℕ, Bool, true, false, cond, List, [], ◌∷◌, flat_map, filter, slice_get, Some, None, refl}
use Rattle.std.specs.List.{AllByRecursion, enumerate_from}
use Rattle.std.proofs.Common.{ap, sym, ◌∙◌}
use Rattle.std.proofs.lemmas.Bool.{cases_Bool, or_from, true≢false}
use Rattle.std.proofs.lemmas.List.{append-nil}
use mathlib.Core.Logic.{inl, inr}
use Rattle.cst_core.specs.Path.{Path, has_path}
use Rattle.cst_core.specs.Tree.{SyntaxTree}
use Rattle.edit_change.specs.Aim.{starts_at, replaces}
use Rattle.edit_change.specs.Rewriting.{NumberedAim, numbers, replacements_at, is_replaced, rewritten, rewritten_whole}
use Rattle.edit_change.specs.inner.KindOnly.{kind_only}
use Rattle.edit_change.specs.Change.{targets}
use Rattle.edit_change.specs.ChangeAim.{aim}
use Rattle.edit_change.specs.Nesting.{first_clash, is_independent}
use Rattle.edit_change.specs.declared.change.Change.{Change}
use Rattle.edit_change.proofs.Lists.{all_enumerated}
use Rattle.edit_steps.proofs.LinkTables.{replaces-targets}
use Rattle.edit_change.specs.NewTree.{change_aims, independents, only}
use Rattle.edit_change.proofs.RootAlone.{root-alone, some-starts}

pub only-at : (done : ℕ → Bool) (cs : List NumberedAim) (p : Path) → replacements_at (only done cs) p ≡ filter done (replacements_at cs p)
only-at done [] p = refl
only-at done (c ∷ cs) p =
    let starts : NumberedAim → Bool = λ d. starts_at p d.1 in
    let kept : List NumberedAim = only done cs in
    let some : List NumberedAim = filter starts cs in
    let some_kept : List NumberedAim = filter starts kept in
    let rest : numbers some_kept ≡ filter done (numbers some) = only-at done cs p in
    let left : (b : Bool) → done c.0 ≡ b → replacements_at (only done (c ∷ cs)) p ≡ numbers (filter starts (cond b (c ∷ kept) kept)) = λ b is. ap (λ x. numbers (filter starts (cond x (c ∷ kept) kept))) is in
    let right : (s : Bool) → starts c ≡ s → filter done (replacements_at (c ∷ cs) p) ≡ filter done (numbers (cond s (c ∷ some) some)) = λ s is. ap (λ x. filter done (numbers (cond x (c ∷ some) some))) is in
    elim (cases_Bool (done c.0)) [
      | inl is_done ↦ elim (cases_Bool (starts c)) [
        | inl here ↦ left true is_done ∙ ap (λ x. numbers (cond x (c ∷ some_kept) some_kept)) here ∙ ap (λ ns. c.0 ∷ ns) rest ∙ sym (right true here ∙ ap (λ x. cond x (c.0 ∷ filter done (numbers some)) (filter done (numbers some))) is_done)
        | inr elsewhere ↦ left true is_done ∙ ap (λ x. numbers (cond x (c ∷ some_kept) some_kept)) elsewhere ∙ rest ∙ sym (right false elsewhere)
      ]
      | inr undone ↦ elim (cases_Bool (starts c)) [
        | inl here ↦ left false undone ∙ rest ∙ sym (right true here ∙ ap (λ x. cond x (c.0 ∷ filter done (numbers some)) (filter done (numbers some))) undone)
        | inr elsewhere ↦ left false undone ∙ rest ∙ sym (right false elsewhere)
      ]
    ]

module _ (cs : List Change) (done : ℕ → Bool) (g : ℕ → List SyntaxTree) (t : SyntaxTree) where
  abbrev stage : List NumberedAim
  stage = only done (independents cs)

  pub root-replaced : (n : ℕ) (c : Change) → first_clash cs ≡ None → slice_get cs n ≡ Some c → has_path (targets c) [] ≡ true → done n ≡ true → rewritten_whole kind_only g (only done (independents cs)) t ≡ g n
  root-replaced n c apart at root is_done =
      let one : replacements_at (only done (independents cs)) [] ≡ n ∷ [] = only-at done (independents cs) [] ∙ ap (filter done) (root-alone cs n c apart at root) ∙ ap (λ b. cond b (n ∷ []) []) is_done in
      ap (λ b. cond b (flat_map g (replacements_at stage [])) (rewritten kind_only g stage [] t ∷ [])) (some-starts stage [] n one) ∙ ap (flat_map g) one ∙ append-nil (g n)

  pub root-kept : ((n : ℕ) (c : Change) → slice_get cs n ≡ Some c → has_path (targets c) [] ≡ true → done n ≡ false) → rewritten_whole kind_only g (only done (independents cs)) t ≡ rewritten kind_only g (only done (independents cs)) [] t ∷ []
  root-kept undone =
      ap (λ b. cond b (flat_map g (replacements_at stage [])) (rewritten kind_only g stage [] t ∷ [])) (none (enumerate_from 0 cs) (all_enumerated cs))
    where
      one : (n : ℕ) (c : Change) → slice_get cs n ≡ Some c → done n ≡ true → replaces [] (aim c) ≡ false
      one n c at is_done =
          elim (cases_Bool (has_path (targets c) [])) [
            | inl root ↦ absurd (true≢false (sym is_done ∙ undone n c at root))
            | inr other ↦ replaces-targets [] c ∙ other
          ]

      none : (ds : List (ℕ × Change)) → AllByRecursion (λ d. slice_get cs d.0 ≡ Some d.1) ds → is_replaced (only done (change_aims (filter (λ d. is_independent cs d.1) ds))) [] ≡ false
      none [] a = refl
      none (d ∷ ds) a =
          let others : List NumberedAim = change_aims (filter (λ e. is_independent cs e.1) ds) in
          let rest : is_replaced (only done others) [] ≡ false = none ds a.1 in
          let with_it : is_replaced (only done ((d.0, aim d.1) ∷ others)) [] ≡ false = elim (cases_Bool (done d.0)) [
            | inl is_done ↦ ap (λ b. is_replaced (cond b ((d.0, aim d.1) ∷ only done others) (only done others)) []) is_done ∙ or_from (replaces [] (aim d.1)) (is_replaced (only done others) []) (one d.0 d.1 a.0 is_done) rest
            | inr not_done ↦ ap (λ b. is_replaced (cond b ((d.0, aim d.1) ∷ only done others) (only done others)) []) not_done ∙ rest
          ] in
          elim (is_independent cs d.1) as (λ b. is_replaced (only done (change_aims (cond b (d ∷ filter (λ e. is_independent cs e.1) ds) (filter (λ e. is_independent cs e.1) ds)))) [] ≡ false) [
            | true ↦ with_it
            | false ↦ rest
          ]
