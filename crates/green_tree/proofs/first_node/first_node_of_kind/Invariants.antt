use Rattle.std.specs.Prelude.{sum_by}
use Rattle.green_tree.specs.Green.{branch_tree}
use Rattle.green_tree.specs.inner.Waiting.{waiting_size}
use Rattle.green_tree.proofs.WaitingNodes.{IsSought}
use Rattle.green_tree.proofs.first_node.first_node_of_kind.Given as goal

abbrev pub invariant-loop-first : goal.invariant-loop-first
invariant-loop-first l = IsSought l.kind.0 l.offset (branch_tree l.root) l.path.items l.waiting.items

abbrev pub decreases-loop-first : goal.decreases-loop-first
decreases-loop-first l = sum_by waiting_size l.waiting.items
