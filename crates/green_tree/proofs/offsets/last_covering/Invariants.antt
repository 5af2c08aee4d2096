use Rattle.std.proofs.Common.{◌≡◌, ◌≤◌, [], ◌∷◌, drop, length}
use Rattle.std.specs.Prelude.{filter}
use Rattle.green_tree.specs.Tree.{paths_from, forest}
use Rattle.green_tree.specs.Order.{start}
use Rattle.green_tree.specs.Offsets.{covers}
use Rattle.green_tree.specs.Green.{branch_tree}
use Rattle.green_tree.proofs.offsets.last_covering.Given as goal

abbrev pub invariant-loop-slot : goal.invariant-loop-slot
invariant-loop-slot l = record {
  within : l.slot ≤ length l.children;
  start : l.begin ≡ start (branch_tree l.node) (l.slot ∷ []);
  none : filter (covers (branch_tree l.node) l.start l.end) (paths_from l.slot (forest (drop l.slot l.node.children))) ≡ [];
}
