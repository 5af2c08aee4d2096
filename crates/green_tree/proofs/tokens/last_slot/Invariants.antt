use Rattle.std.proofs.Common.{◌≡◌, ◌≤◌, [], ◌∷◌, length}
use Rattle.green_tree.specs.Order.{tokens_before}
use Rattle.green_tree.specs.Green.{branch_tree}
use Rattle.green_tree.proofs.tokens.last_slot.Given as goal

abbrev pub invariant-loop-slot : goal.invariant-loop-slot
invariant-loop-slot l = record {
  within : l.slot ≤ length l.children;
  none : tokens_before (branch_tree l.node) (l.end ∷ []) ≡ tokens_before (branch_tree l.node) (l.slot ∷ []);
}
