-- The elements around one.
--     family_of                     The children of the element's parent, with the element; of a root, the root alone.
--     next_node, previous_node      The nearest sibling after the element that is a node; the nearest one before it.
--     siblings_on                   The element, and then its siblings in one direction, the nearest first.
--     nodes_above, ancestors_of     The nodes above the element, the nearest first; the element and then these.
--     element_ancestors             `ancestors_of` for a node, `nodes_above` for a token.
--     elements_of                   The nodes and tokens at or below the element, in document order.
--
-- The next node after `L/1` is `L/4`. Back from `L/2`, `siblings_on` is `L/2`, `L/1`, `L/0`. The element ancestors of
-- `L/4` are `L/4` and `L`, and so are those of the token `L/4/0`.
use Rattle.std.specs.Prelude.{suc, List, [], ◌∷◌, map, filter_map, take, drop, reverse, Option}
use Rattle.std.specs.Option.{option_map_or}
use Rattle.green_tree.specs.Path.{last_slot, above, first_item, last_item}
use Rattle.green_tree.specs.Tree.{paths}
use Rattle.cst_core.specs.Element.{Element, subtree, element_at, below, parent_of}
use Rattle.cst_core.specs.SyntaxElement.{syntax_of, node_of, child_elements}
use Rattle.cst_core.specs.declared.element.SyntaxElement.{SyntaxElement}
use Rattle.cst_core.specs.declared.element.SyntaxElement.TheVariants.{Node, Token}
use Rattle.cst_core.specs.declared.direction.Direction.{Direction}
use Rattle.cst_core.specs.declared.direction.Direction.TheVariants.{Next, Prev}

abbrev pub family_of : Element → List SyntaxElement
family_of e = option_map_or child_elements (parent_of e) (syntax_of e ∷ [])

abbrev pub next_node : Element → Option Element
next_node e = first_item (filter_map node_of (drop (suc (last_slot e.path)) (family_of e)))

abbrev pub previous_node : Element → Option Element
previous_node e = last_item (filter_map node_of (take (last_slot e.path) (family_of e)))

abbrev pub siblings_on : Direction → Element → List SyntaxElement
siblings_on Next e = drop (last_slot e.path) (family_of e)
siblings_on Prev e = reverse (take (suc (last_slot e.path)) (family_of e))

abbrev pub nodes_above : Element → List Element
nodes_above e = map (element_at e) (reverse (above e.path))

abbrev pub ancestors_of : Element → List Element
ancestors_of e = e ∷ nodes_above e

abbrev pub element_ancestors : SyntaxElement → List Element
element_ancestors (Node e) = ancestors_of e
element_ancestors (Token e) = nodes_above e

abbrev pub elements_of : Element → List SyntaxElement
elements_of e = map (λ p. syntax_of (below e p)) (paths (subtree e))
