-- Trees with other labels in place of their own.
--     relabelled-rewritten          rewriting goes with a change of the labels
--     at-relabelled, paths-relabelled, holds-relabelled, topmost-relabelled      the paths, and the tests of labels
--     relabelled-twice              one change of the labels after another
use Rattle.std.specs.Prelude.{◌≡◌, ℕ, suc, Bool, true, false, cond, not, ◌&&◌, List, [], ◌∷◌, ◌++◌, map, filter, flat_map, slice_get, Some, None, option_map, option_and_then, refl}
use Rattle.std.specs.Option.{option_map_or}
use Rattle.std.proofs.Common.{ap, ap₂, ◌∙◌}
use Rattle.std.proofs.lemmas.List.{map-append}
use Rattle.std.proofs.lemmas.Option.{slice_get-map}
use mathlib.Core.Path.{fun_ext}
use Rattle.cst_core.specs.Path.{Path, parent_path}
use Rattle.cst_core.specs.Tree.{Tree, Forest, Token, Node, end, more, SyntaxTree, trees, forest, label, children, at, paths, paths_from, relabelled, forest_relabelled}
use Rattle.edit_change.specs.Topmost.{parent_holds, topmost}
use Rattle.edit_change.specs.Rewriting.{NumberedAim, inserts_at, replacements_at, is_replaced, gap_order, gap, slot, rewritten, rewritten_from, rewritten_whole}

module _ {L M : Type 0} (h : L → M) where
  forest-map : (ts : List (Tree L)) → forest_relabelled h (forest ts) ≡ forest (map (relabelled h) ts)
  forest-map [] = refl
  forest-map (t ∷ ts) = ap (more (relabelled h t)) (forest-map ts)

  map-given : (given : ℕ → List (Tree L)) (ns : List ℕ) → map (relabelled h) (flat_map given ns) ≡ flat_map (λ c. map (relabelled h) (given c)) ns
  map-given given [] = refl
  map-given given (n ∷ ns) = map-append (relabelled h) (given n) (flat_map given ns) ∙ ap (λ ts. map (relabelled h) (given n) ++ ts) (map-given given ns)

  module _ (l : Path → ℕ → L) (given : ℕ → List (Tree L)) (cs : List NumberedAim) where
    abbrev others : ℕ → List (Tree M)
    others c = map (relabelled h) (given c)

    map-slot : (p : Path) (t : Tree L) (u : Tree M) → relabelled h t ≡ u → map (relabelled h) (slot l given cs p t) ≡ slot (λ q k. h (l q k)) others cs p u
    map-slot p t u e =
        elim (is_replaced cs p) as (λ b. map (relabelled h) (cond b (flat_map given (replacements_at cs p)) (t ∷ [])) ≡ cond b (flat_map others (replacements_at cs p)) (u ∷ [])) [
          | true ↦ map-given given (replacements_at cs p)
          | false ↦ ap (λ v. v ∷ []) e
        ]

    mutual
      pub relabelled-rewritten : (p : Path) (t : SyntaxTree) → relabelled h (rewritten l given cs p t) ≡ rewritten (λ q k. h (l q k)) others cs p t
      relabelled-rewritten p (Token k s) = refl
      relabelled-rewritten p (Node k f) =
          ap (Node (h (l p k))) (forest-map (rewritten_from l given cs p 0 f) ∙ ap forest (map-rewritten_from p 0 f))

      map-rewritten_from : (p : Path) (i : ℕ) (f : Forest ℕ) → map (relabelled h) (rewritten_from l given cs p i f) ≡ rewritten_from (λ q k. h (l q k)) others cs p i f
      map-rewritten_from p i end = map-given given (gap_order (inserts_at cs p i))
      map-rewritten_from p i (more t f) =
          let before : List (Tree L) = gap l given cs p i in
          let here : List (Tree L) = slot l given cs (p ++ i ∷ []) (rewritten l given cs (p ++ i ∷ []) t) in
          map-append (relabelled h) (before ++ here) (rewritten_from l given cs p (suc i) f) ∙ ap₂ (λ x y. x ++ y) (map-append (relabelled h) before here ∙ ap₂ (λ x y. x ++ y) (map-given given (gap_order (inserts_at cs p i))) (map-slot (p ++ i ∷ []) _ _ (relabelled-rewritten (p ++ i ∷ []) t))) (map-rewritten_from p (suc i) f)

    pub map-rewritten_whole : (t : SyntaxTree) → map (relabelled h) (rewritten_whole l given cs t) ≡ rewritten_whole (λ q k. h (l q k)) others cs t
    map-rewritten_whole t = map-slot [] (rewritten l given cs [] t) _ (relabelled-rewritten [] t)

  -- ---- paths and labels
  mutual
    pub paths-relabelled : (t : Tree L) → paths (relabelled h t) ≡ paths t
    paths-relabelled (Token l s) = refl
    paths-relabelled (Node l f) = ap (λ ps. [] ∷ ps) (paths_from-relabelled 0 f)

    paths_from-relabelled : (i : ℕ) (f : Forest L) → paths_from i (forest_relabelled h f) ≡ paths_from i f
    paths_from-relabelled i end = refl
    paths_from-relabelled i (more t f) = ap₂ (λ ps qs. map (λ p. i ∷ p) ps ++ qs) (paths-relabelled t) (paths_from-relabelled (suc i) f)

  trees-relabelled : (f : Forest L) → trees (forest_relabelled h f) ≡ map (relabelled h) (trees f)
  trees-relabelled end = refl
  trees-relabelled (more t f) = ap (λ ts. relabelled h t ∷ ts) (trees-relabelled f)

  children-relabelled : (t : Tree L) → children (relabelled h t) ≡ map (relabelled h) (children t)
  children-relabelled (Token l s) = refl
  children-relabelled (Node l f) = trees-relabelled f

  pub at-relabelled : (t : Tree L) (p : Path) → at (relabelled h t) p ≡ option_map (relabelled h) (at t p)
  at-relabelled t [] = refl
  at-relabelled t (i ∷ p) =
      ap (λ ts. option_and_then (λ c. at c p) (slice_get ts i)) (children-relabelled t) ∙ ap (option_and_then (λ c. at c p)) (slice_get-map (relabelled h) (children t) i) ∙ elim (slice_get (children t) i) as (λ o. option_and_then (λ c. at c p) (option_map (relabelled h) o) ≡ option_map (relabelled h) (option_and_then (λ c. at c p) o)) [
        | None ↦ refl
        | Some c ↦ at-relabelled c p
      ]

  pub label-relabelled : (t : Tree L) → label (relabelled h t) ≡ h (label t)
  label-relabelled (Token l s) = refl
  label-relabelled (Node l f) = refl

  pub holds-relabelled : (t : Tree L) (p : Path) (test : M → Bool) → option_map_or (λ e. test (label e)) (at (relabelled h t) p) false ≡ option_map_or (λ e. test (h (label e))) (at t p) false
  holds-relabelled t p test =
      ap (λ o. option_map_or (λ e. test (label e)) o false) (at-relabelled t p) ∙ elim (at t p) as (λ o. option_map_or (λ e. test (label e)) (option_map (relabelled h) o) false ≡ option_map_or (λ e. test (h (label e))) o false) [
        | None ↦ refl
        | Some c ↦ ap test (label-relabelled c)
      ]

  parent-relabelled : (test : M → Bool) (t : Tree L) (p : Path) → parent_holds test (relabelled h t) p ≡ parent_holds (λ l. test (h l)) t p
  parent-relabelled test t [] = refl
  parent-relabelled test t (i ∷ p) = holds-relabelled t (parent_path (i ∷ p)) test

  pub topmost-relabelled : (test : M → Bool) (t : Tree L) → topmost test (relabelled h t) ≡ topmost (λ l. test (h l)) t
  topmost-relabelled test t =
      ap₂ filter (fun_ext (λ p. ap₂ (λ a b. a && not b) (holds-relabelled t p test) (parent-relabelled test t p))) (paths-relabelled t)

module _ {L M N : Type 0} (h : L → M) (g : M → N) where
  mutual
    pub relabelled-twice : (t : Tree L) → relabelled g (relabelled h t) ≡ relabelled (λ l. g (h l)) t
    relabelled-twice (Token l s) = refl
    relabelled-twice (Node l f) = ap (Node (g (h l))) (forest_relabelled-twice f)

    forest_relabelled-twice : (f : Forest L) → forest_relabelled g (forest_relabelled h f) ≡ forest_relabelled (λ l. g (h l)) f
    forest_relabelled-twice end = refl
    forest_relabelled-twice (more t f) = ap₂ more (relabelled-twice t) (forest_relabelled-twice f)
