use Rattle.std.proofs.Common.{◌≡◌, ◌≤◌, ◌++◌, length, take}
use Rattle.std.specs.Prelude.{reverse}
use Rattle.green_tree.specs.Tree.{children}
use Rattle.cst_core.specs.Element.{subtree}
use Rattle.cst_core.specs.SyntaxElement.{child_elements}
use Rattle.cst_core.proofs.lent_node.LentNode.push_children.Given as goal

abbrev pub invariant-loop-slot : goal.invariant-loop-slot
invariant-loop-slot l = record {
  within : l.slot ≤ length (children (subtree l.self));
  same : l.list.items ++ reverse (take l.slot (child_elements l.self)) ≡ l.initial.list.items ++ reverse (child_elements l.self);
}
