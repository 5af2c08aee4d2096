use Rattle.std.proofs.Common.{map}
use Rattle.std.specs.Prelude.{sum_by}
use Rattle.green_tree.specs.Green.{branch_tree}
use Rattle.green_tree.specs.inner.FoundToken.{reached}
use Rattle.green_tree.specs.inner.Touched.{touched_size}
use Rattle.green_tree.proofs.TouchedChildren.{AreVisited}
use Rattle.green_tree.proofs.offsets.tokens_at.Given as goal

abbrev pub invariant-loop-last : goal.invariant-loop-last
invariant-loop-last l = AreVisited (branch_tree l.node) l.offset l.path.items l.touched.items (map reached l.found.items)

abbrev pub decreases-loop-last : goal.decreases-loop-last
decreases-loop-last l = sum_by touched_size l.touched.items
