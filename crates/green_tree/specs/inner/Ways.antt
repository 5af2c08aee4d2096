-- The way down a path, and back.
--     LeadsToNode                    a path leads to a node
--     exchanged                      a node with another child in a slot
--     rebuilt                        the tree at the top, where this tree stands at the end of the way: the nodes above are made anew
--     HasSlot                        a node on the way has the child that leads on
--     IsWay                          these nodes are above this tree, on the way down a path
use Rattle.std.specs.Prelude.{◌≡◌, ◌<◌, ◌+◌, ℕ, List, [], ◌∷◌, length, drop, Some}
use Rattle.std.specs.List.{AllByRecursion}
use Rattle.green_tree.specs.Path.{Path}
use Rattle.green_tree.specs.Tree.{Forest, Node, SyntaxTree, at}
use Rattle.green_tree.specs.Green.{Branch, branch_tree}
use Rattle.green_tree.specs.Green as green
use Rattle.green_tree.specs.inner.Splices.{updated_at}
use Rattle.green_tree.specs.declared.green.splices.WayNode.{WayNode}

pub record LeadsToNode (t : SyntaxTree) (p : Path) : Type 0 where
  pub kind : ℕ
  pub below : Forest ℕ
  pub there : at t p ≡ Some (Node kind below)

abbrev pub exchanged : Branch → ℕ → SyntaxTree → SyntaxTree
exchanged b slot t = branch_tree (green.spliced b slot (slot + 1) (t ∷ []))

abbrev pub rebuilt : List WayNode → SyntaxTree → SyntaxTree
rebuilt [] t = t
rebuilt (n ∷ ns) t = exchanged n.node.now n.slot (rebuilt ns t)

abbrev pub HasSlot : WayNode → Type 0
HasSlot n = n.slot < length n.node.now.children

pub record IsWay (t : SyntaxTree) (p : Path) (above : List WayNode) (u : SyntaxTree) : Type 0 where
  pub there : at t p ≡ at u (drop (length above) p)
  pub up : (h : SyntaxTree → SyntaxTree) → updated_at t p h ≡ rebuilt above (updated_at u (drop (length above) p) h)
  pub inside : AllByRecursion HasSlot above
