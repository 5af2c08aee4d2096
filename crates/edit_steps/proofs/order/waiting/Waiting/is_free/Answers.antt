use Rattle.std.proofs.Common.{rules}
use Rattle.edit_steps.proofs.order.waiting.Waiting.is_free.Goals as goal

pub returns-then-is_free-2 : goal.returns-then-is_free-2
returns-then-is_free-2 c = search rules

pub returns-else-is_free-2 : goal.returns-else-is_free-2
returns-else-is_free-2 c = search rules
