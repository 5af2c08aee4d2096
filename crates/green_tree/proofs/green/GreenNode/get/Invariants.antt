use Rattle.std.proofs.Common.{◌≡◌, drop}
use Rattle.green_tree.specs.Tree.{at}
use Rattle.green_tree.specs.Green.{branch_tree}
use Rattle.green_tree.specs.GreenElementRef.{ref_tree}
use Rattle.green_tree.proofs.green.GreenNode.get.Given as goal

abbrev pub invariant-loop-slot : goal.invariant-loop-slot
invariant-loop-slot l = at (ref_tree l.current) (drop l.slot-index l.path) ≡ at (branch_tree l.self) l.path
