-- The exact count of the nodes that are built.
--     built-shifted                 for a child, as it is seen from the node above
--     counts-at_most                no more nodes are built than are touched
--     counted-own, counted-none     the node itself, where some child list is altered; where none is, nothing is built
--     count-on                      what was counted as a whole, whatever is counted after
use Rattle.std.specs.Prelude.{◌≡◌, ℕ, suc, ◌+◌, ◌≤◌, true, false, cond, List, [], ◌∷◌, ◌++◌, refl}
use Rattle.std.specs.List.{list_any}
use Rattle.std.proofs.Common.{ap, ap₂, ◌∙◌, arith}
use Rattle.green_tree.specs.Path.{Path}
use Rattle.green_tree.specs.Tree.{SyntaxTree, Forest, Token, Node, end, more, forest, node}
use Rattle.edit_change.specs.Rewriting.{NumberedAim, is_replaced}
use Rattle.edit_change.specs.declared.aimed.Aimed.{Aimed}
use Rattle.edit_change.specs.inner.Aimed.{aims_of, some_path, has_parent}
use Rattle.one_pass.specs.inner.Pass.{CountsBuilt, TouchesAtMost}
use Rattle.green_tree.specs.GreenElement.{element_tree}
use Rattle.green_tree.specs.declared.green.GreenElement.{GreenElement}
use Rattle.green_tree.specs.Count.{counted}
use Rattle.edit_change.specs.Effort.{inside, touched, touched_from, parents_of}
use Rattle.one_pass.specs.inner.Built.{built, built_from, nodes_built}
use Rattle.edit_change.proofs.AlteredNodes.{some-parents}
use Rattle.edit_change.proofs.SeenBelow.{Shifted}

-- ---- as it is seen from a child
module _ (cs ds : List NumberedAim) (i : ℕ) (same : Shifted cs ds i) where
  mutual
    pub built-shifted : (p : Path) (t : SyntaxTree) (ps : List Path) → built cs (i ∷ p) t ps ≡ built ds p t ps
    built-shifted p (Token k s) ps = refl
    built-shifted p (Node k f) [] = refl
    built-shifted p (Node k f) (q ∷ ps) = ap (λ n. 1 + n) (built_from-shifted p 0 f (q ∷ ps))

    built_from-shifted : (p : Path) (j : ℕ) (f : Forest ℕ) (ps : List Path) → built_from cs (i ∷ p) j f ps ≡ built_from ds p j f ps
    built_from-shifted p j end ps = refl
    built_from-shifted p j (more t f) ps =
        ap₂ (λ m n. m + n) (ap₂ (λ b n. cond b 0 n) (same.replaced p j) (built-shifted (p ++ j ∷ []) t (inside j ps))) (built_from-shifted p (suc j) f ps)

-- ---- no more is built than is touched
module _ (cs : List NumberedAim) where
  mutual
    pub built-touched : (p : Path) (t : SyntaxTree) (ps : List Path) → built cs p t ps ≤ touched t ps
    built-touched p (Token k s) ps = omega arith
    built-touched p (Node k f) [] = omega arith
    built-touched p (Node k f) (q ∷ ps) = omega (arith, built_from-touched p 0 f (q ∷ ps))

    built_from-touched : (p : Path) (i : ℕ) (f : Forest ℕ) (ps : List Path) → built_from cs p i f ps ≤ touched_from i f ps
    built_from-touched p i end ps = omega arith
    built_from-touched p i (more t f) ps =
        let own = built-touched (p ++ i ∷ []) t (inside i ps) in
        let rest = built_from-touched p (suc i) f ps in
        elim (is_replaced cs (p ++ i ∷ [])) as (λ b. cond b 0 (built cs (p ++ i ∷ []) t (inside i ps)) + built_from cs p (suc i) f ps ≤ touched t (inside i ps) + touched_from (suc i) f ps) [
          | true ↦ omega (arith, rest)
          | false ↦ omega (arith, own, rest)
        ]

at_most : (now own most next : ℕ) → own ≤ most → next ≡ counted now own → next ≤ now + most
at_most now own most next l h = omega (arith, l, h)

pub counts-at_most : (aims : List Aimed) (e : GreenElement) (before after : ℕ) → CountsBuilt aims e before after → TouchesAtMost aims e before after
counts-at_most aims e before after h =
    let ps = parents_of (aims_of aims) in
    at_most before (built (aims_of aims) [] (element_tree e) ps) (touched (element_tree e) ps) after (built-touched (aims_of aims) [] (element_tree e) ps) h

-- ---- a node, and its children
module _ (cs : List NumberedAim) where
  own_paths : (ps : List Path) (k : ℕ) (ts : List SyntaxTree) → some_path ps ≡ true → built cs [] (node k ts) ps ≡ 1 + built_from cs [] 0 (forest ts) ps
  own_paths [] k ts h = absurd (cc)
  own_paths (p ∷ ps) k ts h = refl

  -- the node itself, where some child list is altered
  pub counted-own : (k : ℕ) (ts : List SyntaxTree) → list_any has_parent cs ≡ true → nodes_built cs (node k ts) ≡ 1 + built_from cs [] 0 (forest ts) (parents_of cs)
  counted-own k ts h = own_paths (parents_of cs) k ts (some-parents cs ∙ h)

  no_paths : (ps : List Path) (t : SyntaxTree) → some_path ps ≡ false → built cs [] t ps ≡ 0
  no_paths ps (Token k s) h = refl
  no_paths [] (Node k f) h = refl
  no_paths (p ∷ ps) (Node k f) h = absurd (cc)

  -- where none is, nothing is built
  pub counted-none : (t : SyntaxTree) → list_any has_parent cs ≡ false → nodes_built cs t ≡ 0
  counted-none t h = no_paths (parents_of cs) t (some-parents cs ∙ h)

-- ---- a count that stays at the greatest number
-- what was counted as a whole
pub count-on : (now next own : ℕ) → next ≡ counted now own → (further : ℕ) → counted next further ≡ counted now (own + further)
count-on now next own h further = omega (arith, h)
