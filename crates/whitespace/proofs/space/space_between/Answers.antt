use Rattle.std.proofs.Common.{rules}
use Rattle.whitespace.proofs.space.space_between.Goals as goal

pub returns-in-Nothing : goal.returns-in-Nothing
returns-in-Nothing c = search rules

pub returns-in-OneSpace : goal.returns-in-OneSpace
returns-in-OneSpace c = search rules

pub returns-in-LineOfLeft : goal.returns-in-LineOfLeft
returns-in-LineOfLeft c = search rules

pub returns-in-LineOfRight : goal.returns-in-LineOfRight
returns-in-LineOfRight c = search rules

pub returns-in-LineOfDeeper : goal.returns-in-LineOfDeeper
returns-in-LineOfDeeper c = search rules
