-- The elements at or below a node: the node itself, and those at or below its children.
use Rattle.std.proofs.Common.{◌≡◌, ℕ, zero, suc, ◌<◌, ◌≤◌, List, [], ◌∷◌, ◌++◌, length, map, drop, get_or, Some, refl, ap, sym, ◌∙◌, subst, arith, append_assoc}
use Rattle.std.specs.Prelude.{slice_get, option_and_then, flat_map, unwrap_or}
use Rattle.std.proofs.lemmas.List.{map-append, append-nil}
use Rattle.std.proofs.lemmas.Option.{slice_get-get_or}
use Rattle.green_tree.specs.Path.{Path, counted_from}
use Rattle.green_tree.specs.Tree.{Forest, SyntaxTree, at, children, trees, paths, paths_from}
use Rattle.green_tree.specs.Tree as tree
use Rattle.green_tree.specs.inner.TreeSize.{size, forest_size}
use Rattle.cst_core.specs.Element.{Element, subtree, below}
use Rattle.cst_core.specs.SyntaxElement.{syntax_as, syntax_of, element_of, child_elements}
use Rattle.cst_core.specs.Navigation.{elements_of}
use Rattle.cst_core.specs.declared.element.SyntaxElement.{SyntaxElement}
use Rattle.cst_core.specs.declared.element.SyntaxElement.TheVariants.{Node, Token}
use Rattle.green_tree.proofs.Parts.{slice_get-drop, drop-rest}
use Rattle.cst_core.proofs.Children.{at_below, subtree_there}
use Rattle.cst_core.proofs.ChildSlots.{length_child_elements, drop_child}

-- what a child adds to the list
abbrev pub listed : SyntaxElement → List SyntaxElement
listed (Node e) = elements_of e
listed (Token e) = Token e ∷ []

below-below : (e : Element) (i : ℕ) (ps : List Path) → map (λ p. syntax_of (below e p)) (map (λ p. i ∷ p) ps) ≡ map (λ p. syntax_of (below (below e (i ∷ [])) p)) ps
below-below e i [] = refl
below-below e i (p ∷ ps) = rw (below-below e i ps, append_assoc)

below-top : (e : Element) → below e [] ≡ e
below-top e = ap (λ p. record e { path = p }) (append-nil e.path)

own_elements : (d : Element) (c : SyntaxTree) → subtree d ≡ c → map (λ p. syntax_of (below d p)) (paths c) ≡ listed (syntax_of d)
own_elements d (tree.Token k s) h = ap (λ x. syntax_of x ∷ []) (below-top d) ∙ ap (λ t. syntax_as t d ∷ []) h ∙ ap (λ t. listed (syntax_as t d)) (sym h)
own_elements d (tree.Node k f) h = ap (λ t. map (λ p. syntax_of (below d p)) (paths t)) (sym h) ∙ ap (λ t. listed (syntax_as t d)) (sym h)

child_subtree : (e : Element) (t : SyntaxTree) (i : ℕ) (c : SyntaxTree) → at e.root e.path ≡ Some t → slice_get (children t) i ≡ Some c → subtree (below e (i ∷ [])) ≡ c
child_subtree e t i c h is = subtree_there (below e (i ∷ [])) c (at_below e t (i ∷ []) h ∙ ap (option_and_then (λ d. Some d)) is)

elements-from : (e : Element) (t : SyntaxTree) (i : ℕ) (f : Forest ℕ) → at e.root e.path ≡ Some t → drop i (children t) ≡ trees f →
    map (λ p. syntax_of (below e p)) (paths_from i f) ≡ flat_map listed (map (λ j. syntax_of (below e (j ∷ []))) (counted_from i (length (trees f))))
elements-from e t i tree.end h is = refl
elements-from e t i (tree.more c f) h is =
    let own = child_subtree e t i c h (slice_get-drop (children t) (trees f) i c is) in
    let d : Element = below e (i ∷ []) in
    map-append (λ p. syntax_of (below e p)) (map (λ p. i ∷ p) (paths c)) (paths_from (suc i) f)
    ∙ ap (λ xs. xs ++ map (λ p. syntax_of (below e p)) (paths_from (suc i) f)) (below-below e i (paths c) ∙ own_elements d c own)
    ∙ ap (λ ys. listed (syntax_of d) ++ ys) (elements-from e t (suc i) f h (drop-rest (children t) (trees f) i c is))

-- a node, and then the elements at or below its children
pub elements-children : (e : Element) (k : ℕ) (f : Forest ℕ) → at e.root e.path ≡ Some (tree.Node k f) → elements_of e ≡ Node e ∷ flat_map listed (child_elements e)
elements-children e k f h =
    let own = subtree_there e (tree.Node k f) h in
    ap (λ t. map (λ p. syntax_of (below e p)) (paths t)) own
    ∙ ap (λ x. syntax_of x ∷ map (λ p. syntax_of (below e p)) (paths_from 0 f)) (below-top e)
    ∙ ap (λ t. syntax_as t e ∷ map (λ p. syntax_of (below e p)) (paths_from 0 f)) own
    ∙ ap (λ xs. Node e ∷ xs) (elements-from e (tree.Node k f) 0 f h refl)
    ∙ ap (λ t. Node e ∷ flat_map listed (map (λ j. syntax_of (below e (j ∷ []))) (counted_from 0 (length (children t))))) (sym own)

-- ---- a child is smaller
part_size : (f : Forest ℕ) (i : ℕ) (c : SyntaxTree) → slice_get (trees f) i ≡ Some c → size c ≤ forest_size f
part_size tree.end i c h = absurd (cc)
part_size (tree.more t f) zero c h =
    let same : size t ≡ size c = ap (λ o. size (unwrap_or o c)) h in
    omega (arith, same)
part_size (tree.more t f) (suc i) c h = let rest = part_size f i c h in omega (arith, rest)

of_form : (t : SyntaxTree) (e : Element) → element_of (syntax_as t e) ≡ e
of_form (tree.Token k s) e = refl
of_form (tree.Node k f) e = refl

get_first : {X : Type 0} (xs ys : List X) (i : ℕ) (x d : X) → drop i xs ≡ x ∷ ys → get_or xs i d ≡ x
get_first [] ys zero x d h = absurd (cc)
get_first [] ys (suc i) x d h = absurd (cc)
get_first (z ∷ xs) ys zero x d h = cc
get_first (z ∷ xs) ys (suc i) x d h = get_first xs ys i x d h

pub child_is_smaller : (e : Element) (k : ℕ) (f : Forest ℕ) (xs : List SyntaxElement) (i : ℕ) (x : SyntaxElement) → at e.root e.path ≡ Some (tree.Node k f) → xs ≡ child_elements e → i < length xs → x ≡ get_or xs i x → size (subtree (element_of x)) < size (subtree e)
child_is_smaller e k f xs i x h is inside at_i =
    let own = subtree_there e (tree.Node k f) h in
    let count : length xs ≡ length (children (subtree e)) = ap length is ∙ length_child_elements e in
    let within : i < length (children (subtree e)) = omega (arith, count) in
    let there : i < length (trees f) = subst (λ t. i < length (children t)) own within in
    let d : Element = below e (i ∷ []) in
    let same : x ≡ syntax_of d = at_i ∙ ap (λ ys. get_or ys i x) is ∙ get_first (child_elements e) (drop (suc i) (child_elements e)) i (syntax_of d) x (drop_child e i within) in
    let c = get_or (trees f) i (tree.Token 0 []) in
    let found = slice_get-get_or (trees f) i (tree.Token 0 []) there in
    let sub : subtree (element_of x) ≡ c = ap (λ y. subtree (element_of y)) same ∙ ap subtree (of_form (subtree d) d) ∙ child_subtree e (tree.Node k f) i c h found in
    let small = part_size f i c found in
    rw (sub, own) (omega (arith, small))
