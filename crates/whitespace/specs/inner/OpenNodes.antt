-- A node of which the children before a slot are done: a list begins the new children.
--     IsOpened       nothing is done of this node
--     HasNext        a child stands at the slot, and no more new children are made than are done
--     begun          the new children, as far as they are made, after a child that becomes this or stays
--     IsAdvanced     one child more is done, which becomes this or stays
--     IsClosed       the node with the new children, where there is no answer the old one
use Rattle.std.specs.Prelude.{◌≡◌, ◌<◌, ◌≤◌, ◌+◌, List, [], ◌∷◌, ◌++◌, length, take, drop, Option, Some, None, unwrap_or}
use Rattle.cst_core.specs.Tree.{SyntaxTree}
use Rattle.cst_core.specs.Green.{Branch, branch_tree}
use Rattle.cst_core.specs.GreenElement.{element_tree, element_trees}
use Rattle.green_tree.specs.declared.green.GreenElement.{GreenElement}
use Rattle.whitespace.specs.declared.shift.OpenNode.{OpenNode}
use Rattle.whitespace.specs.inner.Shift.{with_rest}

pub record IsOpened (o : OpenNode) (b : Branch) : Type 0 where
  pub node : o.node.now ≡ b
  pub first : o.slot ≡ 0
  pub none : o.built.items ≡ []

pub record HasNext (o : OpenNode) : Type 0 where
  pub below : o.slot < length o.node.now.children
  pub short : length o.built.items ≤ o.slot

abbrev pub begun : OpenNode → Option GreenElement → List SyntaxTree
begun o None = element_trees o.built.items
begun o (Some e) = element_trees o.built.items ++ drop (length o.built.items) (take o.slot o.node.now.children) ++ element_tree e ∷ []

pub record IsAdvanced (before : OpenNode) (new : Option GreenElement) (after : OpenNode) : Type 0 where
  pub node : after.node.now ≡ before.node.now
  pub next : after.slot ≡ before.slot + 1
  pub built : element_trees after.built.items ≡ begun before new

abbrev pub IsClosed : OpenNode → Option SyntaxTree → Type 0
IsClosed o new = unwrap_or new (branch_tree o.node.now) ≡ with_rest element_tree o.node.now o.built.items
