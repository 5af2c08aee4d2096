-- The topmost elements of a node that does not pass, child by child.
use Rattle.std.specs.Prelude.{◌≡◌, ℕ, suc, ◌&&◌, Bool, true, false, cond, not, List, [], ◌∷◌, ◌++◌, map, filter, length, slice_get, drop, Some, refl}
use Rattle.std.specs.List.{All}
use Rattle.std.proofs.Common.{ap, ap₂, ◌∙◌, arith}
use Rattle.std.proofs.lemmas.List.Elements.{filter-append, All-tail}
use Rattle.green_tree.specs.Path.{Path, counted_from}
use Rattle.green_tree.specs.Tree.{Tree, Forest, Token, Node, end, more, trees, forest, node, label, paths, paths_from, relabelled, forest_relabelled}
use Rattle.green_tree.proofs.Parts.{filter-map, slice_get-drop, drop-rest}
use Rattle.edit_change.specs.Topmost.{holds_at, parent_holds, topmost}
use Rattle.one_pass.proofs.Children.{trees-forest}

module _ {L : Type 0} (test : L → Bool) where
  -- of the children from a slot on
  abbrev pub tops : ℕ → List (Tree L) → List Path
  tops i [] = []
  tops i (t ∷ ts) = map (λ p. i ∷ p) (topmost test t) ++ tops (suc i) ts

  -- ---- a node that does not pass
  abbrev passes : Tree L → Path → Bool
  passes t p = holds_at test t p && not (parent_holds test t p)

  -- at a path below the child that stands in a slot
  passes-child : (l : L) (f : Forest L) (i : ℕ) (c : Tree L) → test l ≡ false → slice_get (trees f) i ≡ Some c → (p : Path) → passes (Node l f) (i ∷ p) ≡ passes c p
  passes-child l f i c none there [] = rw there (ap (λ b. test (label c) && not b) none)
  passes-child l f i c none there (j ∷ p) = rw there refl

  passes-children : (l : L) (f : Forest L) (i : ℕ) (g : Forest L) → test l ≡ false → drop i (trees f) ≡ trees g → filter (passes (Node l f)) (paths_from i g) ≡ tops i (trees g)
  passes-children l f i end none h = refl
  passes-children l f i (more c g) none h =
      let there : slice_get (trees f) i ≡ Some c = slice_get-drop (trees f) (trees g) i c h in
      filter-append (passes (Node l f)) (map (λ p. i ∷ p) (paths c)) (paths_from (suc i) g) ∙ ap₂ (λ ps qs. ps ++ qs) (filter-map (passes (Node l f)) (passes c) (λ p. i ∷ p) (paths c) (passes-child l f i c none there)) (passes-children l f (suc i) g none (drop-rest (trees f) (trees g) i c h))

  pub top-node : (l : L) (f : Forest L) → test l ≡ false → topmost test (Node l f) ≡ tops 0 (trees f)
  top-node l f none =
      ap (λ b. cond (b && true) ([] ∷ filter (passes (Node l f)) (paths_from 0 f)) (filter (passes (Node l f)) (paths_from 0 f))) none ∙ passes-children l f 0 f none refl

  pub top-token : (l : L) (s : List ℕ) → test l ≡ false → topmost test (Token l s) ≡ []
  top-token l s none = ap (λ b. cond (b && true) ([] ∷ []) []) none

  pub top-children : (l : L) (ts : List (Tree L)) → test l ≡ false → topmost test (node l ts) ≡ tops 0 ts
  top-children l ts none = top-node l (forest ts) none ∙ ap (tops 0) (trees-forest ts)

  -- ---- trees that pass at the top
  pub tops-alone : (i : ℕ) (ts : List (Tree L)) → All (λ t. topmost test t ≡ [] ∷ []) ts → tops i ts ≡ map (λ j. j ∷ []) (counted_from i (length ts))
  tops-alone i [] all = refl
  tops-alone i (t ∷ ts) all =
      ap₂ (λ ps qs. map (λ p. i ∷ p) ps ++ qs) (all 0 t (omega arith)) (tops-alone (suc i) ts (All-tail (λ t. topmost test t ≡ [] ∷ []) t ts all))

  -- ---- trees with no label that passes
  module _ {M : Type 0} (h : M → L) (none : (m : M) → test (h m) ≡ false) where
    mutual
      pub top-none : (t : Tree M) → topmost test (relabelled h t) ≡ []
      top-none (Token m s) = ap (λ b. cond (b && true) ([] ∷ []) []) (none m)
      top-none (Node m f) = top-node (h m) (forest_relabelled h f) (none m) ∙ tops-none 0 f

      tops-none : (i : ℕ) (f : Forest M) → tops i (trees (forest_relabelled h f)) ≡ []
      tops-none i end = refl
      tops-none i (more t f) = ap₂ (λ ps qs. map (λ p. i ∷ p) ps ++ qs) (top-none t) (tops-none (suc i) f)
