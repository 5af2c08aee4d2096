use Rattle.std.proofs.Common.{rules}
use Rattle.edit_plan.proofs.annotation.Annotations.next.Goals as goal

pub returns-clause-number : goal.returns-clause-number
returns-clause-number c = search rules

pub returns-clause-given : goal.returns-clause-given
returns-clause-given c = search rules
