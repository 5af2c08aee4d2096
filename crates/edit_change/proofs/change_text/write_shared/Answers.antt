use Rattle.std.proofs.Common.{refl, rules}
use Rattle.green_tree.proofs.Written.{one_more_written}
use Rattle.edit_change.proofs.change_text.write_shared.Goals as goal

pub loop-element-preserved : goal.loop-element-preserved
loop-element-preserved g c = λ plain.
    let so_far = c.loop-element.invariant plain in
    let more = c.fmt.ensures.writes so_far.wrote.plain (search rules) in
    one_more_written _ _ _ (λ _ _. refl) c.args.elements.now c.loop-element.element-index c.element-item.result _ _ _ c.loop-element-test.true c.element-item.is so_far more
