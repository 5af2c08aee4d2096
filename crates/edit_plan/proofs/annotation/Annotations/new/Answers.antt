use Rattle.std.proofs.Common.{rules}
use Rattle.edit_plan.proofs.annotation.Annotations.new.Goals as goal

pub returns : goal.returns
returns c = search rules
