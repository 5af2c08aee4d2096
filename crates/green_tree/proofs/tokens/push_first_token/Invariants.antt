use Rattle.green_tree.specs.GreenElementRef.{ref_tree}
use Rattle.green_tree.specs.inner.Neighbors.{first_token}
use Rattle.green_tree.specs.inner.TreeSize.{size}
use Rattle.green_tree.proofs.Turns.{IsWalked}
use Rattle.green_tree.proofs.tokens.push_first_token.Given as goal

abbrev pub invariant-loop-current : goal.invariant-loop-current
invariant-loop-current l = IsWalked first_token (ref_tree l.from) (ref_tree l.current) l.initial.path.items l.path.items

abbrev pub decreases-loop-current : goal.decreases-loop-current
decreases-loop-current l = size (ref_tree l.current)
