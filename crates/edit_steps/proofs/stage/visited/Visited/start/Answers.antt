use Rattle.std.proofs.Common.{rules}
use Rattle.edit_steps.proofs.stage.visited.Visited.start.Goals as goal

pub overflow_add-self : goal.overflow_add-self
overflow_add-self c = search rules

pub overflow_add-result : goal.overflow_add-result
overflow_add-result c = search rules

pub invariant_of-self : goal.invariant_of-self
invariant_of-self c = search rules

pub returns-clause-start : goal.returns-clause-start
returns-clause-start c = search rules
