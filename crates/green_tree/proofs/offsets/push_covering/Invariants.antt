use Rattle.green_tree.specs.Green.{branch_tree}
use Rattle.green_tree.specs.inner.TreeSize.{size}
use Rattle.green_tree.proofs.Covering.{IsNarrowed}
use Rattle.green_tree.proofs.offsets.push_covering.Given as goal

abbrev pub invariant-loop-child : goal.invariant-loop-child
invariant-loop-child l = IsNarrowed (branch_tree l.node) l.start l.end l.initial.path.items l.path.items (branch_tree l.current) l.from l.to

abbrev pub decreases-loop-child : goal.decreases-loop-child
decreases-loop-child l = size (branch_tree l.current)
