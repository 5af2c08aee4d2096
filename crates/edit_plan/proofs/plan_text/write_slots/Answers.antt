use Rattle.std.proofs.Common.{refl}
use Rattle.green_tree.proofs.Written.{one_more_written}
use Rattle.edit_plan.proofs.PlanLines.{number-at}
use Rattle.edit_plan.proofs.plan_text.write_slots.Goals as goal

pub loop-slot-preserved : goal.loop-slot-preserved
loop-slot-preserved g c = λ plain.
    let so_far = c.loop-slot.invariant plain in
    let more = c.in_ok-write.ensures.writes so_far.wrote.plain refl in
    one_more_written _ _ _ (λ _ _. refl) c.args.slots.now c.loop-slot.slot-index _ _ _ _ c.loop-slot-test.true (number-at c.args.slots.now c.loop-slot.slot-index 0 c.loop-slot-test.true) so_far more
