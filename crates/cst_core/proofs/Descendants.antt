-- The nodes at or below a node: the node itself, and those at or below its child nodes.
use Rattle.std.proofs.Common.{◌≡◌, ℕ, zero, suc, ◌<◌, ◌≤◌, Bool, List, [], ◌∷◌, ◌++◌, length, map, drop, get_or, Some, refl, ap, sym, ◌∙◌, arith, append_assoc}
use Rattle.std.specs.Prelude.{not, option_and_then, flat_map, filter_map}
use Rattle.std.proofs.lemmas.List.{map-append, append-nil}
use Rattle.green_tree.specs.Path.{Path, counted_from}
use Rattle.green_tree.specs.Tree.{Tree, Forest, SyntaxTree, at, children, trees, is_token}
use Rattle.green_tree.specs.Tree as tree
use Rattle.green_tree.specs.Order.{node_paths}
use Rattle.green_tree.specs.inner.TreeSize.{size, forest_size}
use Rattle.cst_core.specs.Element.{Element, subtree, below}
use Rattle.cst_core.specs.SyntaxElement.{syntax_as, syntax_of, node_of, child_nodes, descendants_of}
use Rattle.cst_core.specs.declared.element.SyntaxElement.{SyntaxElement}
use Rattle.cst_core.proofs.Children.{at_below, subtree_there}
use Rattle.green_tree.proofs.Parts.{parts, parts_from, parts-node, slice_get-drop, drop-rest}

abbrev is_node : SyntaxTree → Bool
is_node t = not (is_token t)

map-below-below : (e : Element) (i : ℕ) (ps : List Path) → map (below e) (map (λ p. i ∷ p) ps) ≡ map (below (below e (i ∷ []))) ps
map-below-below e i [] = refl
map-below-below e i (p ∷ ps) = rw (map-below-below e i ps, append_assoc)

-- the child nodes from a slot on, of so many slots
abbrev nodes_from : Element → ℕ → ℕ → List Element
nodes_from e i n = filter_map node_of (map (λ j. syntax_of (below e (j ∷ []))) (counted_from i n))

child_subtree : (e : Element) (t : SyntaxTree) (i : ℕ) (c : SyntaxTree) (f : Forest ℕ) → at e.root e.path ≡ Some t → drop i (children t) ≡ c ∷ trees f → subtree (below e (i ∷ [])) ≡ c
child_subtree e t i c f h is = subtree_there (below e (i ∷ [])) c (at_below e t (i ∷ []) h ∙ ap (option_and_then (λ d. Some d)) (slice_get-drop (children t) (trees f) i c is))

-- one child's nodes, and then those of others
own_nodes : (d : Element) (c : SyntaxTree) (others : List SyntaxElement) → subtree d ≡ c → map (below d) (node_paths c) ++ flat_map descendants_of (filter_map node_of others) ≡ flat_map descendants_of (filter_map node_of (syntax_as c d ∷ others))
own_nodes d (tree.Token k s) others h = refl
own_nodes d (tree.Node k f) others h = ap (λ t. map (below d) (node_paths t) ++ flat_map descendants_of (filter_map node_of others)) (sym h)

nodes-from : (e : Element) (t : SyntaxTree) (i : ℕ) (f : Forest ℕ) → at e.root e.path ≡ Some t → drop i (children t) ≡ trees f → map (below e) (parts_from is_node i f) ≡ flat_map descendants_of (nodes_from e i (length (trees f)))
nodes-from e t i tree.end h is = refl
nodes-from e t i (tree.more c f) h is =
    let own = child_subtree e t i c f h is in
    let d : Element = below e (i ∷ []) in
    let others : List SyntaxElement = map (λ j. syntax_of (below e (j ∷ []))) (counted_from (suc i) (length (trees f))) in
    map-append (below e) (map (λ p. i ∷ p) (parts is_node c)) (parts_from is_node (suc i) f)
    ∙ ap (λ xs. xs ++ map (below e) (parts_from is_node (suc i) f)) (map-below-below e i (parts is_node c))
    ∙ ap (λ ys. map (below d) (node_paths c) ++ ys) (nodes-from e t (suc i) f h (drop-rest (children t) (trees f) i c is))
    ∙ own_nodes d c others own
    ∙ ap (λ x. flat_map descendants_of (filter_map node_of (syntax_as x d ∷ others))) (sym own)

below-top : (e : Element) → below e [] ≡ e
below-top e = ap (λ p. record e { path = p }) (append-nil e.path)

-- a node, and then the nodes at or below its child nodes
pub descendants-child_nodes : (e : Element) (k : ℕ) (f : Forest ℕ) → at e.root e.path ≡ Some (tree.Node k f) → descendants_of e ≡ e ∷ flat_map descendants_of (child_nodes e)
descendants-child_nodes e k f h =
    let own = subtree_there e (tree.Node k f) h in
    ap (λ t. map (below e) (node_paths t)) own
    ∙ ap (map (below e)) (parts-node is_node k f)
    ∙ ap (λ x. x ∷ map (below e) (parts_from is_node 0 f)) (below-top e)
    ∙ ap (λ xs. e ∷ xs) (nodes-from e (tree.Node k f) 0 f h refl)
    ∙ ap (λ t. e ∷ flat_map descendants_of (nodes_from e 0 (length (children t)))) (sym own)

-- ---- a child node is smaller
small_own : (d : Element) (c : SyntaxTree) (others : List SyntaxElement) (n : ℕ) → subtree d ≡ c → size c ≤ n →
    ((j : ℕ) (x : Element) → j < length (filter_map node_of others) → x ≡ get_or (filter_map node_of others) j x → size (subtree x) ≤ n) →
    (j : ℕ) (x : Element) → j < length (filter_map node_of (syntax_as c d ∷ others)) → x ≡ get_or (filter_map node_of (syntax_as c d ∷ others)) j x → size (subtree x) ≤ n
small_own d (tree.Token k s) others n h small rest j x inside is = rest j x inside is
small_own d (tree.Node k f) others n h small rest zero x inside is = rw (is, h) small
small_own d (tree.Node k f) others n h small rest (suc j) x inside is = rest j x (omega arith) is

small_from : (e : Element) (t : SyntaxTree) (i : ℕ) (f : Forest ℕ) (n : ℕ) → at e.root e.path ≡ Some t → drop i (children t) ≡ trees f → forest_size f ≤ n →
    (j : ℕ) (x : Element) → j < length (nodes_from e i (length (trees f))) → x ≡ get_or (nodes_from e i (length (trees f))) j x → size (subtree x) ≤ n
small_from e t i tree.end n h is small j x inside at_j = absurd (omega arith)
small_from e t i (tree.more c f) n h is small j x inside at_j =
    let own = child_subtree e t i c f h is in
    let d : Element = below e (i ∷ []) in
    let others : List SyntaxElement = map (λ k. syntax_of (below e (k ∷ []))) (counted_from (suc i) (length (trees f))) in
    let rest = small_from e t (suc i) f n h (drop-rest (children t) (trees f) i c is) (omega arith) in
    small_own d (subtree d) others n refl (rw own (omega arith)) rest j x inside at_j

pub child_node_is_smaller : (e : Element) (k : ℕ) (f : Forest ℕ) (xs : List Element) (j : ℕ) (x : Element) → at e.root e.path ≡ Some (tree.Node k f) → xs ≡ child_nodes e → j < length xs → x ≡ get_or xs j x → size (subtree x) < size (subtree e)
child_node_is_smaller e k f xs j x h is inside at_j =
    let own = subtree_there e (tree.Node k f) h in
    let all : xs ≡ nodes_from e 0 (length (trees f)) = is ∙ ap (λ t. nodes_from e 0 (length (children t))) own in
    let small = small_from e (tree.Node k f) 0 f (forest_size f) h refl (omega arith) j x (rw (← all) inside) (rw (← all) at_j) in
    rw own (omega (arith, small))
