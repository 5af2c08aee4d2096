use Rattle.std.proofs.Common.{◌≡◌, ◌≤◌, ◌+◌, ◌-◌, length}
use Rattle.std.specs.List.{AllByRecursion}
use Rattle.green_tree.specs.Count.{counted}
use Rattle.green_tree.specs.Green.{branch_tree}
use Rattle.green_tree.specs.GreenElement.{element_trees}
use Rattle.green_tree.specs.inner.Splices.{updated_at, spliced}
use Rattle.green_tree.specs.inner.Ways.{rebuilt, HasSlot}
use Rattle.green_tree.proofs.green.splices.spliced_anew.Given as goal

abbrev pub invariant-loop-node : goal.invariant-loop-node
invariant-loop-node l = record {
  up : rebuilt l.above.items (branch_tree l.made) ≡ updated_at (branch_tree l.top) l.path (spliced l.first l.count (element_trees l.fn.new.items));
  inside : AllByRecursion HasSlot l.above.items;
  within : length l.above.items ≤ length l.path;
  count : l.builds ≡ counted l.fn.builds (length l.path + 1 - length l.above.items);
}

abbrev pub decreases-loop-node : goal.decreases-loop-node
decreases-loop-node l = length l.above.items
