use Rattle.std.proofs.Common.{ap, ◌∙◌, get_or}
use Rattle.edit_steps.proofs.Widths.{pushed_rest}
use Rattle.edit_steps.proofs.stage.visited.lengthen.Goals as goal

pub longer-preserved : goal.longer-preserved
longer-preserved c = λ i.
    ap (λ xs. get_or xs i c.args.rest) c.in_ok-push.ensures.items ∙ pushed_rest c.longer.list.items c.args.rest i ∙ c.longer.invariant i
