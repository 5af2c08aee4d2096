use Rattle.std.proofs.Common.{◌≡◌, ◌≤◌, ◌+◌, [], ◌∷◌, length}
use Rattle.green_tree.specs.Order.{start}
use Rattle.green_tree.specs.Green.{branch_tree}
use Rattle.green_tree.proofs.WaitingNodes.{AreWaiting}
use Rattle.green_tree.proofs.first_node.push_waiting.Given as goal

abbrev pub invariant-loop-slot : goal.invariant-loop-slot
invariant-loop-slot l = record {
  within : l.slot ≤ length l.children;
  begins : l.next ≡ l.begin + start (branch_tree l.node) (l.slot ∷ []);
  waiting : AreWaiting l.node l.children l.begin l.offset l.depth l.slot l.initial.waiting.items l.waiting.items;
}
