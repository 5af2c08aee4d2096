use Rattle.std.proofs.Common.{arith}
use Rattle.green_tree.specs.Green.{branch_tree}
use Rattle.green_tree.proofs.Covering.{covering_none-back, covering_none-past, covering_there}
use Rattle.green_tree.proofs.offsets.covering_path.Goals as goal
use Rattle.green_tree.proofs.offsets.covering_path.Goals.{then-end-start-via-then-end-start, then-end-start-via-else-end-start+then-length-end}
use Rattle.std.proofs.Common.{sym}

pub returns-then-end-start-clause-ok : goal.returns-then-end-start-clause-ok
returns-then-end-start-clause-ok c =
    sym (elim c.then-end-start.branch [
      | then-end-start-via-then-end-start w ↦ covering_none-back (branch_tree c.args.node.now) c.args.start c.args.end (omega (arith, w.if-end-start.true))
      | then-end-start-via-else-end-start+then-length-end w ↦ covering_none-past (branch_tree c.args.node.now) c.args.start c.args.end (omega (arith, w.if-length-end.true, w.length.ensures, c.requires.fits))
    ])

pub returns-in_err-push_covering-clause-none : goal.returns-in_err-push_covering-clause-none
returns-in_err-push_covering-clause-none c nothing =
    absurd (covering_there c.args.node.now c.args.start c.args.end (omega (arith, c.if-end-start.false)) (omega (arith, c.if-length-end.false, c.length.ensures, c.requires.fits)) nothing)
