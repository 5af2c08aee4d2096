use Rattle.whitespace.proofs.OpenNodes.{IsSoFar, AreOpen, work}
use Rattle.whitespace.proofs.shift.shifted_node.Given as goal

abbrev pub invariant-loop-below : goal.invariant-loop-below
invariant-loop-below l = record {
  nodes : AreOpen l.shift l.node l.above.items l.open.node.now;
  so_far : IsSoFar l.shift l.open;
}

abbrev pub decreases-loop-below : goal.decreases-loop-below
decreases-loop-below l = work l.above.items l.open
