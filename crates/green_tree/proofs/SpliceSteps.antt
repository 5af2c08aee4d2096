-- A splice at the end of a path, by steps down from the top.
--     room-here, made-here           at the node itself: its slots are there; what is made of it
--     Below, below                   further down: the child is there, and can be spliced in
--     made-below                     what is made of the node, with the child that is made in its slot
--     path-on, path-shorter          a path that goes on; what is left of it is shorter
--     no-token                       nothing is spliced in a token
use Rattle.std.proofs.Common.{◌≡◌, ℕ, ◌+◌, ◌-◌, ◌<◌, ◌≤◌, List, [], ◌∷◌, ◌++◌, length, take, drop, get_or, set, Some, None, Option, refl, ap, ap₂, sym, subst, ◌∙◌, arith, add-one}
use Rattle.std.specs.Prelude.{slice_get, option_and_then}
use Rattle.std.specs.Option.{option_map_or}
use Rattle.std.proofs.lemmas.List.{length-map, set_split, append_assoc, take_all}
use Rattle.std.proofs.lemmas.Option.{same_Some, slice_get_within}
use Rattle.green_tree.specs.Path.{Path}
use Rattle.green_tree.specs.Tree.{Forest, Node, SyntaxTree, node, forest, trees, at}
use Rattle.green_tree.specs.Green.{Branch, Leaf, branch_tree, leaf_tree}
use Rattle.green_tree.specs.GreenElement.{element_tree, element_trees}
use Rattle.green_tree.specs.declared.green.GreenElement.{GreenElement}
use Rattle.green_tree.specs.inner.Splices.{CanSplice, spliced, updated_at}
use Rattle.green_tree.proofs.Lookup.{trees-forest}
use Rattle.green_tree.proofs.Slots.{slice_get-child}
use Rattle.green_tree.proofs.Splices.{trees-splice}

pub path-on : (p : Path) → 1 ≤ length p → p ≡ get_or p 0 0 ∷ take (length p - 1) (drop 1 p)
path-on [] l = absurd (omega arith)
path-on (i ∷ p) l = ap (λ q. i ∷ q) (sym (take_all (length (i ∷ p) - 1) p (omega arith)))

module _ (b : Branch) (es : List GreenElement) (same : element_trees es ≡ b.children) (first count : ℕ) where
  so_many : length b.children ≡ length es
  so_many = ap length (sym same) ∙ length-map es element_tree

  pub room-here : (p : Path) → p ≡ [] → CanSplice (branch_tree b) p first count → first + count ≤ length es
  room-here p none h =
      let at_top : Some (branch_tree b) ≡ Some (Node h.kind h.below) = ap (at (branch_tree b)) (sym none) ∙ h.there in
      let is : Node b.kind (forest b.children) ≡ Node h.kind h.below = same_Some (Node b.kind (forest b.children)) (Node h.kind h.below) at_top in
      let below : forest b.children ≡ h.below = cc in
      let long : length (trees h.below) ≡ length b.children = ap (λ f. length (trees f)) (sym below) ∙ ap length (trees-forest b.children) in
      omega (arith, h.within, long, so_many)

  pub made-here : (p : Path) → p ≡ [] → (new : List GreenElement) (d : Branch) → d.kind ≡ b.kind → d.children ≡ element_trees (take first es ++ new ++ drop (first + count) es) → branch_tree d ≡ updated_at (branch_tree b) p (spliced first count (element_trees new))
  made-here p none new d kind children =
      let ts : List SyntaxTree = element_trees new in
      ap₂ node kind (children ∙ trees-splice first (first + count) es new)
      ∙ ap (λ us. node b.kind (take first us ++ ts ++ drop (first + count) us)) (same ∙ sym (trees-forest b.children))
      ∙ ap (λ q. updated_at (branch_tree b) q (spliced first count ts)) (sym none)

  module _ (p : Path) (i : ℕ) (r : Path) (on : p ≡ i ∷ r) where
    pub record Below : Type 0 where
      pub inside : i < length es
      pub can : (e : GreenElement) → e ≡ get_or es i e → CanSplice (element_tree e) r first count

    go : (k : ℕ) (f : Forest ℕ) → first + count ≤ length (trees f) → (o : Option SyntaxTree) → slice_get b.children i ≡ o → option_and_then (λ c. at c r) (slice_get b.children i) ≡ Some (Node k f) → Below
    go k f room None is had = let wrong = ap (λ x. option_and_then (λ c. at c r) x) (sym is) ∙ had in absurd (cc)
    go k f room (Some c) is had =
        let within : i < length es = subst (λ n. i < n) so_many (slice_get_within b.children i c is) in
        record {
          inside = within;
          can = λ e here.
              let found : slice_get b.children i ≡ Some (element_tree e) = ap (λ us. slice_get us i) (sym (trees-forest b.children)) ∙ slice_get-child b es i e same within here in
              record {
                kind = k;
                below = f;
                there = ap (λ x. option_and_then (λ c. at c r) x) (sym found) ∙ had;
                within = room;
              };
        }

    pub below : CanSplice (branch_tree b) p first count → Below
    below h =
        go h.kind h.below h.within (slice_get b.children i) refl
        (ap (λ us. option_and_then (λ c. at c r) (slice_get us i)) (sym (trees-forest b.children)) ∙ ap (at (branch_tree b)) (sym on) ∙ h.there)

    pub made-below : (h : SyntaxTree → SyntaxTree) → i < length es → (e : GreenElement) → e ≡ get_or es i e → (c : GreenElement) → element_tree c ≡ updated_at (element_tree e) r h → (d : Branch) → d.kind ≡ b.kind → d.children ≡ element_trees (set es i c) → branch_tree d ≡ updated_at (branch_tree b) p h
    made-below h inside e here c made d kind children =
        let found : slice_get (trees (forest b.children)) i ≡ Some (element_tree e) = slice_get-child b es i e same inside here in
        let cut : set es i c ≡ take i es ++ (c ∷ []) ++ drop (i + 1) es = set_split es i c inside ∙ ap (λ n. take i es ++ c ∷ drop n es) (sym (add-one i)) ∙ sym (append_assoc (take i es) (c ∷ []) (drop (i + 1) es)) in
        ap₂ node kind (children ∙ ap element_trees cut ∙ trees-splice i (i + 1) es (c ∷ []))
        ∙ ap₂ (λ us x. node b.kind (take i us ++ (x ∷ []) ++ drop (i + 1) us)) (same ∙ sym (trees-forest b.children)) made
        ∙ sym (ap (λ o. option_map_or (λ x. spliced i 1 (updated_at x r h ∷ []) (branch_tree b)) o (branch_tree b)) found)
        ∙ ap (λ q. updated_at (branch_tree b) q h) (sym on)

pub path-shorter : (p : Path) → 1 ≤ length p → length (take (length p - 1) (drop 1 p)) < length p
path-shorter [] l = absurd (omega arith)
path-shorter (i ∷ p) l = let same = ap length (take_all (length (i ∷ p) - 1) p (omega arith)) in omega (arith, same)

pub no-token : (l : Leaf) (p : Path) (first count : ℕ) → CanSplice (leaf_tree l) p first count → ⊥
no-token l [] first count h = let there = h.there in cc
no-token l (i ∷ p) first count h = let there = h.there in cc
