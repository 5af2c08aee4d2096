use Rattle.std.proofs.Common.{◌≡◌, ◌≤◌, ◌++◌, length}
use Rattle.std.specs.Prelude.{reverse}
use Rattle.green_tree.specs.Tree.{children}
use Rattle.cst_core.specs.Element.{subtree}
use Rattle.cst_core.specs.SyntaxElement.{child_nodes}
use Rattle.cst_core.specs.inner.ChildSlots.{nodes_up_to}
use Rattle.cst_core.proofs.lent_node.LentNode.push_nodes.Given as goal

abbrev pub invariant-loop-slot : goal.invariant-loop-slot
invariant-loop-slot l = record {
  within : l.slot ≤ length (children (subtree l.self));
  same : l.list.items ++ reverse (nodes_up_to l.self l.slot) ≡ l.initial.list.items ++ reverse (child_nodes l.self);
}
