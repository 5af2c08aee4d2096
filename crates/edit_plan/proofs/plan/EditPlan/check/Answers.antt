use Rattle.std.proofs.Common.{rules}
use Rattle.edit_plan.proofs.plan.EditPlan.check.Goals as goal

pub returns-in_err-prepare-clause-refused : goal.returns-in_err-prepare-clause-refused
returns-in_err-prepare-clause-refused c = search rules

pub returns-clause-planned : goal.returns-clause-planned
returns-clause-planned c = search rules
