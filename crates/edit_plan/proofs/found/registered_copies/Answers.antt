use Rattle.std.proofs.Common.{arith}
use Rattle.std.proofs.lemmas.Grind.{common_steps}
use Rattle.edit_plan.proofs.ByAnnotation.{followed-more}
use Rattle.edit_plan.proofs.found.registered_copies.Goals as goal

pub loop-registration-preserved : goal.loop-registration-preserved
loop-registration-preserved c = followed-more c.args.mapping.now c.args.registrations.now c.loop-registration.registration-index c.registration-item.result c.in_ok-follow.field-0 c.loop-registration.reached.items c.push.new.self.items c.loop-registration-test.true c.registration-item.is c.in_ok-push.ensures.items c.in_ok-follow.ensures.followed c.loop-registration.invariant

pub returns : goal.returns
returns c = grind (arith, common_steps)
