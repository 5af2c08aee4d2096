use Rattle.std.proofs.Common.{◌≤◌}
use Rattle.green_tree.specs.inner.TreeSize.{branch_size}
use Rattle.green_tree.proofs.+drop.Given as goal

abbrev pub invariant-green::GreenNode::drop-loop-children : goal.invariant-green::GreenNode::drop-loop-children
invariant-green::GreenNode::drop-loop-children l = branch_size l.self ≤ branch_size l.initial.self
