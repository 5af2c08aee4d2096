-- The children of an element, one slot at a time.
--     child_in, node_in               the child in a slot; the same, if it is a node
--     nodes_from_slot, nodes_up_to    the nodes among the children from a slot on, in order; those before a slot
use Rattle.std.specs.Prelude.{ℕ, List, [], ◌∷◌, ◌++◌, filter_map, take, drop, Option, option_and_then}
use Rattle.cst_core.specs.Element.{Element}
use Rattle.cst_core.specs.SyntaxElement.{syntax_at, node_of, child_elements}
use Rattle.cst_core.specs.declared.element.SyntaxElement.{SyntaxElement}

abbrev pub child_in : Element → ℕ → Option SyntaxElement
child_in e slot = syntax_at e (e.path ++ slot ∷ [])

abbrev pub node_in : Element → ℕ → Option Element
node_in e slot = option_and_then node_of (child_in e slot)

abbrev pub nodes_from_slot : Element → ℕ → List Element
nodes_from_slot e slot = filter_map node_of (drop slot (child_elements e))

abbrev pub nodes_up_to : Element → ℕ → List Element
nodes_up_to e slot = filter_map node_of (take slot (child_elements e))
