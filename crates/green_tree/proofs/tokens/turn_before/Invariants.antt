use Rattle.green_tree.specs.Green.{branch_tree}
use Rattle.green_tree.specs.inner.Neighbors.{last_token, last_token_before}
use Rattle.green_tree.proofs.Turns.{IsTurned}
use Rattle.green_tree.proofs.tokens.turn_before.Given as goal

abbrev pub invariant-loop-depth : goal.invariant-loop-depth
invariant-loop-depth l = IsTurned last_token last_token_before (branch_tree l.root) l.path l.depth (branch_tree l.node) l.turn
