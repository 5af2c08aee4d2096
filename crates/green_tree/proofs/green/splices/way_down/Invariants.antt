use Rattle.std.proofs.Common.{◌≡◌, length}
use Rattle.green_tree.specs.Green.{branch_tree}
use Rattle.green_tree.specs.inner.Ways.{IsWay}
use Rattle.green_tree.proofs.green.splices.way_down.Given as goal

abbrev pub invariant-loop-slot : goal.invariant-loop-slot
invariant-loop-slot l = record {
  way : IsWay (branch_tree l.top) l.path l.above.items (branch_tree l.node);
  reached : length l.above.items ≡ l.slot-index;
}
