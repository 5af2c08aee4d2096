-- How deep open nodes are.
--     open_depth             the depth of the tree that closing all open nodes would give
--     closed_depth           so of nodes as descriptions see them, the innermost first, where that one has a child of this depth
--     IsFull                 as many nodes are open as may be, which is one at least, and closing them all gives no tree that is too
--                            deep
use Rattle.std.specs.Prelude.{ℕ, ◌<◌, ◌≤◌, suc, List, [], ◌∷◌, length, max}
use Rattle.cst_core.specs.Tree.{forest}
use Rattle.cst_core.specs.GreenElement.{element_trees}
use Rattle.tree_text.specs.Depth.{forest_depth}
use Rattle.tree_text.specs.inner.Completing.{OpenTree}
use Rattle.tree_text.specs.declared.open_node.OpenNode.{OpenNode}

abbrev pub open_depth : List OpenNode → ℕ
open_depth [] = 0
open_depth (n ∷ ns) = suc (max (forest_depth (forest (element_trees n.children.items))) (open_depth ns))

abbrev pub closed_depth : List OpenTree → ℕ → ℕ
closed_depth [] d = d
closed_depth (n ∷ outer) d = closed_depth outer (suc (max (forest_depth (forest n.1)) d))

abbrev pub IsFull : ℕ → List OpenTree → Type 0
IsFull limit nodes = (0 < limit) × (limit ≤ length nodes) × (closed_depth nodes 0 ≤ limit)
