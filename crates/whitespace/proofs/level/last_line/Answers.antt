use Rattle.whitespace.proofs.LastLines.{after_found, after_none}
use Rattle.whitespace.proofs.level.last_line.Goals as goal

pub returns-in-Some : goal.returns-in-Some
returns-in-Some c = after_found _ _ _ c.in-Some.ensures.cases

pub returns-in-None : goal.returns-in-None
returns-in-None c = after_none _ c.in-None.ensures.cases
