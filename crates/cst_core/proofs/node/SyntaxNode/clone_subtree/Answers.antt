use Rattle.std.proofs.Common.{◌<◌, arith}
use Rattle.green_tree.specs.Tree.{text_length}
use Rattle.green_tree.specs.Green.{branch_tree, length_limit}
use Rattle.green_tree.proofs.TextLengths.{text_length-part}
use Rattle.cst_core.proofs.node.SyntaxNode.clone_subtree.Goals as goal

pub returns-clause-fits : goal.returns-clause-fits
returns-clause-fits c = λ refused.
    let short = text_length-part c.self.inside.location.root c.self.inside.location.path (branch_tree c.self.inside.green) c.self.invariant.there c.self.invariant.fits in
    let green : text_length (branch_tree c.in_ok-green.green) < length_limit = rw c.in_ok-green.ensures short in
    let long = c.new_root.ensures.too_long.0 refused in
    absurd (omega (arith, green, long))
