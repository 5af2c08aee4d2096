-- Trees that are nodes.
--     IsNodeTree, IsOneNode         a tree is a node; trees are one node
--     BringsNode                    a change brings one node
use Rattle.std.specs.Prelude.{◌≡◌, ℕ, List, [], ◌∷◌}
use Rattle.green_tree.specs.Tree.{SyntaxTree, Forest, Node}
use Rattle.cst_core.specs.Element.{Element, IsNode}
use Rattle.edit_change.specs.Change.{payload}
use Rattle.edit_change.specs.declared.change.Change.{Change}

abbrev pub IsNodeTree : SyntaxTree → Type 0
IsNodeTree t = (kind : ℕ) × (below : Forest ℕ) × (t ≡ Node kind below)

abbrev pub IsOneNode : List SyntaxTree → Type 0
IsOneNode ts = (kind : ℕ) × (below : Forest ℕ) × (ts ≡ Node kind below ∷ [])

abbrev pub BringsNode : Change → Type 0
BringsNode c = (e : Element) × (payload c ≡ e ∷ []) × IsNode e
