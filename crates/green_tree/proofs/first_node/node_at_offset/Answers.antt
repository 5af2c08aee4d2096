use Rattle.std.proofs.Common.{arith, ◌<◌, ◌+◌}
use Rattle.green_tree.specs.Tree.{text_length}
use Rattle.green_tree.specs.Green.{branch_tree}
use Rattle.green_tree.proofs.FirstNode.{none-after, none-past}
use Rattle.green_tree.proofs.first_node.node_at_offset.Goals as goal

pub returns-then-offset-begin-clause-none : goal.returns-then-offset-begin-clause-none
returns-then-offset-begin-clause-none c = λ kind. rw c.in-Node.is (none-after kind c.args.begin c.args.offset (branch_tree c.in-Node.node) c.if-offset-begin.true)

pub returns-then-begin-length-clause-none : goal.returns-then-begin-length-clause-none
returns-then-begin-length-clause-none c =
    let fits = rw c.in-Node.is at c.requires.fits in
    let past : c.args.begin + text_length (branch_tree c.in-Node.node) < c.args.offset = omega (arith, fits, c.length.ensures, c.if-begin-length.true) in
    λ kind. rw c.in-Node.is (none-past kind c.args.begin c.args.offset (branch_tree c.in-Node.node) past)
