-- An element among the children of its parent.
use Rattle.std.proofs.Common.{◌≡◌, ℕ, suc, ◌<◌, ◌≤◌, [], ◌∷◌, length, take, drop, Option, Some, None, refl, ap, sym, ◌∙◌, arith}
use Rattle.std.specs.Prelude.{filter_map, option_map, unwrap_or, false}
use Rattle.std.specs.Option.{option_map_or}
use Rattle.green_tree.specs.Path.{Path, first_item, last_item, last_slot}
use Rattle.green_tree.specs.Tree as tree
use Rattle.green_tree.specs.Tree.{SyntaxTree, at, children, is_token}
use Rattle.cst_core.specs.Element.{Element, IsElement, IsNode, subtree, element_at, parent_of, root_of}
use Rattle.cst_core.specs.SyntaxElement.{syntax_as, syntax_of, node_of, child_elements}
use Rattle.cst_core.specs.Navigation.{family_of, next_node, previous_node}
use Rattle.cst_core.specs.declared.element.SyntaxElement.TheVariants.{Node}
use Rattle.cst_core.specs.inner.ChildSlots.{nodes_from_slot, nodes_up_to}
use Rattle.cst_core.proofs.ChildSlots.{length_child_elements, nodes_from_slot-end, slot_is_inside}

pub family-child : (e p : Element) → parent_of e ≡ Some p → family_of e ≡ child_elements p
family-child e p h = ap (λ o. option_map_or child_elements o (syntax_of e ∷ [])) h

node_form : (o : Option SyntaxTree) (e : Element) → option_map is_token o ≡ Some false → syntax_as (unwrap_or o (tree.Token 0 [])) e ≡ Node e
node_form None e h = absurd (cc)
node_form (Some (tree.Token k s)) e h = absurd (cc)
node_form (Some (tree.Node k f)) e h = refl

family_at_root : (e : Element) (q : Path) → parent_of (element_at e q) ≡ None → IsNode (root_of e) → family_of (element_at e q) ≡ Node (root_of e) ∷ []
family_at_root e [] h top = ap (λ s. s ∷ []) (node_form (at e.root []) (root_of e) top)
family_at_root e (i ∷ q) h top = absurd (cc (h))

pub family-root : (e : Element) → parent_of e ≡ None → IsNode (root_of e) → family_of e ≡ Node (root_of e) ∷ []
family-root e h top = family_at_root e e.path h top

inside_at : (e : Element) (q : Path) (o : Option Element) → IsElement (element_at e q) → parent_of (element_at e q) ≡ o → last_slot q < length (family_of (element_at e q))
inside_at e q (Some p) there h =
    let inside = slot_is_inside (element_at e q) p there h in
    let count = ap length (family-child (element_at e q) p h) ∙ length_child_elements p in
    omega (arith, inside, count)
inside_at e [] None there h = omega arith
inside_at e (i ∷ q) None there h = absurd (cc (h))

pub slot_in_family : (e : Element) → IsElement e → last_slot e.path < length (family_of e)
slot_in_family e there = inside_at e e.path (parent_of e) there refl

-- ---- the nearest nodes
pub next_node-child : (e p : Element) (j : ℕ) → parent_of e ≡ Some p → j ≡ suc (last_slot e.path) → first_item (nodes_from_slot p j) ≡ next_node e
next_node-child e p j h is = ap (λ k. first_item (nodes_from_slot p k)) is ∙ ap (λ xs. first_item (filter_map node_of (drop (suc (last_slot e.path)) xs))) (sym (family-child e p h))

pub next_node-past : (e p : Element) → parent_of e ≡ Some p → length (children (subtree p)) ≤ suc (last_slot e.path) → next_node e ≡ None
next_node-past e p h past = sym (next_node-child e p (suc (last_slot e.path)) h refl) ∙ ap first_item (nodes_from_slot-end p (suc (last_slot e.path)) past)

next_at_root : (e : Element) (q : Path) → parent_of (element_at e q) ≡ None → next_node (element_at e q) ≡ None
next_at_root e [] h = refl
next_at_root e (i ∷ q) h = absurd (cc (h))

pub next_node-root : (e : Element) → parent_of e ≡ None → next_node e ≡ None
next_node-root e h = next_at_root e e.path h

pub previous_node-child : (e p : Element) (j : ℕ) → parent_of e ≡ Some p → j ≡ last_slot e.path → last_item (nodes_up_to p j) ≡ previous_node e
previous_node-child e p j h is = ap (λ k. last_item (nodes_up_to p k)) is ∙ ap (λ xs. last_item (filter_map node_of (take (last_slot e.path) xs))) (sym (family-child e p h))

previous_at_root : (e : Element) (q : Path) → parent_of (element_at e q) ≡ None → previous_node (element_at e q) ≡ None
previous_at_root e [] h = refl
previous_at_root e (i ∷ q) h = absurd (cc (h))

pub previous_node-root : (e : Element) → parent_of e ≡ None → previous_node e ≡ None
previous_node-root e h = previous_at_root e e.path h
