use Rattle.std.specs.Fmt.{IsPlainFormatter}
use Rattle.green_tree.specs.Tree.{text}
use Rattle.green_tree.specs.Green.{branch_tree}
use Rattle.green_tree.proofs.OpenNodes.{IsWrittenTo, left_in, weight_in}
use Rattle.green_tree.proofs.text.write_text.Given as goal

abbrev pub invariant-loop-current : goal.invariant-loop-current
invariant-loop-current g l = IsPlainFormatter l.initial.f → IsWrittenTo g.W.Write.write_str_gives (text (branch_tree l.node)) (left_in l.current l.above.items) l.initial.f l.f

abbrev pub decreases-loop-current : goal.decreases-loop-current
decreases-loop-current g l = weight_in l.current l.above.items
