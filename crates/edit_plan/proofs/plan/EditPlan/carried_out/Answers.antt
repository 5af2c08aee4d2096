use Rattle.edit_plan.proofs.AllowedRuns.{along-new, along-step, along-more, along-end}
use Rattle.edit_plan.proofs.plan.EditPlan.carried_out.Goals as goal

pub loop-change-init : goal.loop-change-init
loop-change-init c = along-new c.args.self.now c.args.order.now c.in_ok-run.run' c.in_ok-run.ensures

pub step-requires : goal.step-requires
step-requires c =
    along-step c.args.self.now c.args.order.now c.requires c.loop-change.change-index c.loop-change.run c.loop-change.invariant c.loop-change-test.true

pub loop-change-preserved : goal.loop-change-preserved
loop-change-preserved c =
    along-more c.args.self.now c.args.order.now c.requires c.loop-change.change-index c.loop-change.run c.loop-change.invariant c.loop-change-test.true c.step.new.self c.in_ok-step.ensures.plan c.in_ok-step.ensures.done

pub returns : goal.returns
returns c =
    along-end c.args.self.now c.args.order.now c.requires c.loop-change.change-index c.loop-change.run c.loop-change.invariant c.loop-change-test.false
