use Rattle.edit_change.proofs.GivenTrees.{given_is, given_unique}
use Rattle.edit_plan.proofs.laws.given_is_settled.Goals as goal

pub returns-clause-gives : goal.returns-clause-gives
returns-clause-gives c = given_is

pub returns-clause-only : goal.returns-clause-only
returns-clause-only c = given_unique
