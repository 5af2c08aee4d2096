use Rattle.std.proofs.Common.{rules}
use Rattle.edit_plan.proofs.plan_text.write_fate.Goals as goal

pub returns-then-is_dropped : goal.returns-then-is_dropped
returns-then-is_dropped g c = search rules
