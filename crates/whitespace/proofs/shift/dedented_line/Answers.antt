use Rattle.whitespace.proofs.Dedented.{stripped, kept}
use Rattle.whitespace.proofs.shift.dedented_line.Goals as goal

pub returns-in-Some : goal.returns-in-Some
returns-in-Some c = stripped c.args.level.0 c.args.line.now _ _ c.spaces.ensures c.in-Some.ensures.cases

pub returns-in-None : goal.returns-in-None
returns-in-None c = kept c.args.level.0 c.args.line.now _ c.spaces.ensures c.in-None.ensures.cases
