-- A child is one level below its node.
use Rattle.std.proofs.Common.{◌≡◌, ℕ, ◌+◌, List, [], ◌∷◌, length, map, Some, refl, ap, ◌∙◌, length-append}
use Rattle.std.specs.Prelude.{All, filter_map}
use Rattle.std.proofs.lemmas.Option.{same_Some}
use Rattle.std.proofs.lemmas.List.Elements.{All-nil, All-cons, All-head, All-tail}
use Rattle.green_tree.specs.Path.{Path, parent_path, last_slot, counted_from}
use Rattle.green_tree.specs.Tree.{SyntaxTree, children}
use Rattle.green_tree.specs.Tree as tree
use Rattle.cst_core.specs.Element.{Element, subtree, below, element_at, parent_of}
use Rattle.cst_core.specs.SyntaxElement.{element_of, node_of, syntax_as, syntax_of, child_elements, child_nodes}
use Rattle.cst_core.specs.declared.element.SyntaxElement.{SyntaxElement}
use Rattle.cst_core.specs.declared.element.SyntaxElement.TheVariants.{Node, Token}
use Rattle.cst_core.proofs.LastSlot.{parent-and-slot}

abbrev IsOneBelow : Element → Element → Type 0
IsOneBelow e d = length d.path ≡ length e.path + 1

own_form : (t : SyntaxTree) (e : Element) → element_of (syntax_as t e) ≡ e
own_form (tree.Token k s) e = refl
own_form (tree.Node k f) e = refl

slot_level : (e : Element) (i : ℕ) → IsOneBelow e (element_of (syntax_of (below e (i ∷ []))))
slot_level e i =
    ap (λ (d : Element). length d.path) (own_form (subtree (below e (i ∷ []))) (below e (i ∷ []))) ∙ length-append e.path (i ∷ [])

levels : (e : Element) (is : List ℕ) → All (λ c. IsOneBelow e (element_of c)) (map (λ i. syntax_of (below e (i ∷ []))) is)
levels e [] = All-nil (λ c. IsOneBelow e (element_of c))
levels e (i ∷ is) = All-cons (λ c. IsOneBelow e (element_of c)) (syntax_of (below e (i ∷ []))) (map (λ j. syntax_of (below e (j ∷ []))) is) (slot_level e i) (levels e is)

pub child-level : (e : Element) → All (λ c. length (element_of c).path ≡ length e.path + 1) (child_elements e)
child-level e = levels e (counted_from 0 (length (children (subtree e))))

-- what holds of the elements holds of those of them that are nodes
pub nodes_among : (P : Element → Type 0) (xs : List SyntaxElement) → All (λ c. P (element_of c)) xs → All P (filter_map node_of xs)
nodes_among P [] all = All-nil P
nodes_among P (Node n ∷ xs) all = All-cons P n (filter_map node_of xs) (All-head (λ c. P (element_of c)) (Node n) xs all) (nodes_among P xs (All-tail (λ c. P (element_of c)) (Node n) xs all))
nodes_among P (Token t ∷ xs) all = nodes_among P xs (All-tail (λ c. P (element_of c)) (Token t) xs all)

pub child_node-level : (e : Element) → All (λ n. length n.path ≡ length e.path + 1) (child_nodes e)
child_node-level e = nodes_among (IsOneBelow e) (child_elements e) (child-level e)

parent_at-level : (e parent : Element) (q : Path) → parent_of (element_at e q) ≡ Some parent → length q ≡ length parent.path + 1
parent_at-level e parent [] is = absurd (cc)
parent_at-level e parent (i ∷ q) is =
    let same : element_at e (parent_path (i ∷ q)) ≡ parent = same_Some _ _ is in
    ap length (parent-and-slot i q) ∙ length-append (parent_path (i ∷ q)) (last_slot (i ∷ q) ∷ []) ∙ ap (λ (d : Element). length d.path + 1) same

pub parent-level : (e parent : Element) → parent_of e ≡ Some parent → length e.path ≡ length parent.path + 1
parent-level e parent is = parent_at-level e parent e.path is
