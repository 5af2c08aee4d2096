use Rattle.green_tree.specs.Green.{branch_tree}
use Rattle.green_tree.specs.inner.Neighbors.{first_token, first_token_after}
use Rattle.green_tree.proofs.Turns.{IsTurned}
use Rattle.green_tree.proofs.tokens.turn_after.Given as goal

abbrev pub invariant-loop-depth : goal.invariant-loop-depth
invariant-loop-depth l = IsTurned first_token first_token_after (branch_tree l.root) l.path l.depth (branch_tree l.node) l.turn
