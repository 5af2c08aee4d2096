use Rattle.std.proofs.Common.{◌||◌, not, sym, ◌∙◌, ap}
use Rattle.std.specs.Prelude.{◌==◌}
use Rattle.tree_text.proofs.RunLengths.{one-more-passes}
use Rattle.tree_text.proofs.runs.plain_length.Goals as goal

pub loop-index-preserved : goal.loop-index-preserved
loop-index-preserved c =
    one-more-passes (λ b. not (b == 34 || b == 92)) c.as_bytes-byte-items.result.now c.args.text.now c.loop-index.index c.as_bytes-byte-items.ensures.value c.loop-index-test.true c.loop-index.invariant (ap not (sym c.is_special.ensures ∙ c.if-is_special.false))
