use Rattle.std.proofs.Common.{◌≡◌, [], ◌∷◌}
use Rattle.green_tree.specs.Green.{branch_tree}
use Rattle.green_tree.specs.inner.FoundToken.{tokens_from}
use Rattle.green_tree.proofs.tokens.first_slot.Given as goal

abbrev pub invariant-loop-slot : goal.invariant-loop-slot
invariant-loop-slot l = tokens_from (branch_tree l.node) (l.start ∷ []) ≡ tokens_from (branch_tree l.node) (l.slot ∷ [])
