use Rattle.std.proofs.Common.{◌+◌, ◌*◌}
use Rattle.std.specs.Prelude.{⊤, sum_by}
use Rattle.green_tree.specs.Tree.{forest}
use Rattle.green_tree.specs.GreenElement.{element_trees}
use Rattle.green_tree.specs.inner.TreeSize.{forest_size}
use Rattle.cst_core.proofs.display.write_below.Given as goal

abbrev pub invariant-walk : goal.invariant-walk
invariant-walk g l = ⊤

abbrev pub decreases-walk : goal.decreases-walk
decreases-walk g l = sum_by (λ es. 2 * forest_size (forest (element_trees es.now)) + 1) l.waiting.items
