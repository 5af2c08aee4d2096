use Rattle.std.proofs.Common.{rules, subst}
use Rattle.edit_plan.specs.Plan.{IsPlan}
use Rattle.edit_plan.proofs.plan.EditPlan.root.Goals as goal

pub returns-clause-root : goal.returns-clause-root
returns-clause-root c = search rules

pub returns-clause-planned : goal.returns-clause-planned
returns-clause-planned c = subst IsPlan c.self.view_is c.self.invariant.is_plan
