use Rattle.green_tree.specs.Green.{branch_tree}
use Rattle.cst_core.proofs.Lengths.{text_length-capped, text_length-fits}
use Rattle.cst_core.proofs.node.SyntaxNode.text_len.Goals as goal

pub returns-clause-length : goal.returns-clause-length
returns-clause-length c =
    text_length-capped c.args.self.now (branch_tree c.self.inside.green) c.length.result (rw (← c.self.view_is) c.self.invariant.there) (rw (← c.self.view_is) c.self.invariant.fits) c.length.ensures

pub returns-clause-fits : goal.returns-clause-fits
returns-clause-fits c =
    text_length-fits c.args.self.now (branch_tree c.self.inside.green) c.length.result (rw (← c.self.view_is) c.self.invariant.there) (rw (← c.self.view_is) c.self.invariant.fits) c.length.ensures
