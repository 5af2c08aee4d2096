use Rattle.std.proofs.Common.{rules}
use Rattle.edit_plan.proofs.plan.EditPlan.default_order.Goals as goal

pub returns-clause-allowed : goal.returns-clause-allowed
returns-clause-allowed c = search rules

pub returns-clause-ordered : goal.returns-clause-ordered
returns-clause-ordered c = search rules
