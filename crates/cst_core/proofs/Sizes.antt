-- Fewer elements are at or below a child than at or below its node.
use Rattle.std.proofs.Common.{◌≡◌, ℕ, suc, ◌<◌, List, [], ◌∷◌, length, map, get_or, Option, Some, None, refl, ap, ◌∙◌, arith, length-append}
use Rattle.std.specs.Prelude.{All, unwrap_or}
use Rattle.std.proofs.lemmas.List.{length-map, get_or_default}
use Rattle.green_tree.specs.Tree.{SyntaxTree, Forest, at, children, paths, paths_from}
use Rattle.green_tree.specs.Tree as tree
use Rattle.green_tree.specs.inner.TreeSize.{size, forest_size}
use Rattle.cst_core.specs.Element.{Element, subtree}
use Rattle.cst_core.specs.SyntaxElement.{element_of, child_elements, child_nodes}
use Rattle.cst_core.proofs.Elements.{child_is_smaller}
use Rattle.cst_core.proofs.Children.{subtree_there}
use Rattle.cst_core.proofs.ChildSlots.{length_child_elements}
use Rattle.cst_core.proofs.Levels.{nodes_among}

mutual
  length-paths : (t : SyntaxTree) → length (paths t) ≡ size t
  length-paths (tree.Token k s) = refl
  length-paths (tree.Node k f) = omega (arith, length-paths_from 0 f)

  length-paths_from : (i : ℕ) (f : Forest ℕ) → length (paths_from i f) ≡ forest_size f
  length-paths_from i tree.end = refl
  length-paths_from i (tree.more t f) =
      omega (arith, length-append (map (λ p. i ∷ p) (paths t)) (paths_from (suc i) f), length-map (paths t) (λ p. i ∷ p), length-paths t, length-paths_from (suc i) f)

abbrev IsSmaller : Element → Element → Type 0
IsSmaller e d = length (paths (subtree d)) < length (paths (subtree e))

abbrev AreSmaller : Element → Type 0
AreSmaller e = All (λ c. IsSmaller e (element_of c)) (child_elements e)

no_children : (e : Element) (k : ℕ) (s : List ℕ) → subtree e ≡ tree.Token k s → AreSmaller e
no_children e k s own i d inside =
    let none : length (child_elements e) ≡ 0 = length_child_elements e ∙ ap (λ t. length (children t)) own in
    absurd (omega arith)

of_node : (e : Element) (k : ℕ) (f : Forest ℕ) → at e.root e.path ≡ Some (tree.Node k f) → AreSmaller e
of_node e k f there i d inside =
    let x = get_or (child_elements e) i d in
    let same : x ≡ get_or (child_elements e) i x = get_or_default (child_elements e) i d x inside in
    let smaller : size (subtree (element_of x)) < size (subtree e) = child_is_smaller e k f (child_elements e) i x there refl inside same in
    omega (arith, smaller, length-paths (subtree (element_of x)), length-paths (subtree e))

by_tree : (e : Element) (o : Option SyntaxTree) → at e.root e.path ≡ o → AreSmaller e
by_tree e None there = no_children e 0 [] (ap (λ o. unwrap_or o (tree.Token 0 [])) there)
by_tree e (Some (tree.Token k s)) there = no_children e k s (subtree_there e (tree.Token k s) there)
by_tree e (Some (tree.Node k f)) there = of_node e k f there

pub child-smaller : (e : Element) → All (λ c. length (paths (subtree (element_of c))) < length (paths (subtree e))) (child_elements e)
child-smaller e = by_tree e (at e.root e.path) refl

pub child_node-smaller : (e : Element) → All (λ n. length (paths (subtree n)) < length (paths (subtree e))) (child_nodes e)
child_node-smaller e = nodes_among (IsSmaller e) (child_elements e) (child-smaller e)
