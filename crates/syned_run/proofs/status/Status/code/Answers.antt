use Rattle.std.proofs.Common.{rules}
use Rattle.syned_run.proofs.status.Status.code.Goals as goal

pub returns-in-Done : goal.returns-in-Done
returns-in-Done c = search rules

pub returns-in-Refused : goal.returns-in-Refused
returns-in-Refused c = search rules

pub returns-in-BadScript : goal.returns-in-BadScript
returns-in-BadScript c = search rules

pub returns-in-Failed : goal.returns-in-Failed
returns-in-Failed c = search rules
