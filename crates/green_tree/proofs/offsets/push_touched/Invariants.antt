use Rattle.std.proofs.Common.{◌≡◌, [], ◌∷◌}
use Rattle.green_tree.specs.Order.{start}
use Rattle.green_tree.specs.Green.{branch_tree}
use Rattle.green_tree.proofs.TouchedChildren.{ArePushed}
use Rattle.green_tree.proofs.offsets.push_touched.Given as goal

abbrev pub invariant-loop-slot : goal.invariant-loop-slot
invariant-loop-slot l = record {
  start : l.end ≡ start (branch_tree l.node) (l.slot ∷ []);
  pushed : ArePushed l.node l.element-items l.offset l.depth l.slot l.initial.touched.items l.touched.items;
}
