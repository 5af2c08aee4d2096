-- The nodes that aren't closed yet.
--     open_tree, open_trees      one with its kind and the children that it has so far; all of them, the innermost first
--     HasPut           the innermost one has one more child at its end
--     IsInnermostLong  it has too long a text
use Rattle.std.specs.Prelude.{◌≡◌, List, [], ◌∷◌, ◌++◌, map, reverse}
use Rattle.cst_core.specs.Green.{IsTooLong, texts}
use Rattle.cst_core.specs.GreenElement.{element_trees}
use Rattle.cst_core.specs.Tree.{SyntaxTree}
use Rattle.tree_text.specs.inner.Completing.{OpenTree}
use Rattle.tree_text.specs.declared.open_node.OpenNode.{OpenNode}

abbrev pub open_tree : OpenNode → OpenTree
open_tree n = (n.kind.0, element_trees n.children.items)

abbrev pub open_trees : List OpenNode → List OpenTree
open_trees ns = reverse (map open_tree ns)

abbrev pub HasPut : SyntaxTree → List OpenTree → List OpenTree → Type 0
HasPut u [] new = ⊥
HasPut u (n ∷ outer) new = new ≡ (n.0, n.1 ++ u ∷ []) ∷ outer

abbrev pub IsInnermostLong : List OpenTree → Type 0
IsInnermostLong [] = ⊥
IsInnermostLong (n ∷ outer) = IsTooLong (texts n.1)
