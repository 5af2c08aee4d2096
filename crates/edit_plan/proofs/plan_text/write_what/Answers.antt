use Rattle.std.proofs.Common.{arith}
use Rattle.std.proofs.lemmas.Grind.{common_steps}
use Rattle.edit_plan.proofs.plan_text.write_what.Goals as goal

pub returns-in_ok-write_target-in-ReplaceAll : goal.returns-in_ok-write_target-in-ReplaceAll
returns-in_ok-write_target-in-ReplaceAll g c = grind (arith, common_steps)
