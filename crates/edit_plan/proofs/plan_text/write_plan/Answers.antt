use Rattle.std.proofs.Common.{refl}
use Rattle.green_tree.proofs.Written.{one_more_written, all_written}
use Rattle.edit_plan.proofs.PlanLines.{line-within, line-at, lines-past}
use Rattle.edit_plan.proofs.plan_text.write_plan.Goals as goal

pub loop-number-preserved : goal.loop-number-preserved
loop-number-preserved g c = λ plain.
    let so_far = c.loop-number.invariant plain in
    let more = c.in_ok-write_line.ensures so_far.wrote.plain refl in
    let within = c.loop-number-test.true in
    let same = c.changes-change-items.ensures in
    let i = c.loop-number.number in
    one_more_written _ _ _ (λ _ _. refl) _ i (i, c.change-item.result) _ _ _ (line-within _ _ same i within) (line-at _ _ same i c.change-item.result within c.change-item.is) so_far more

pub returns : goal.returns
returns g c = λ plain ok.
    all_written _ _ _ refl _ _ _ _ (lines-past _ _ c.changes-change-items.ensures c.loop-number.number c.loop-number-test.false) (c.loop-number.invariant plain)
