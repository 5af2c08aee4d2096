use Rattle.std.proofs.Common.{rules}
use Rattle.edit_steps.proofs.order.waiting.Standing.is_settled.Goals as goal

pub returns-in-Dropped : goal.returns-in-Dropped
returns-in-Dropped c = search rules

pub returns-in-Undone : goal.returns-in-Undone
returns-in-Undone c = search rules

pub returns-in-Done : goal.returns-in-Done
returns-in-Done c = search rules
