use Rattle.std.proofs.Common.{sym, ◌∙◌}
use Rattle.tree_text.specs.KindNames.{is_name_byte}
use Rattle.tree_text.proofs.RunLengths.{one-more-passes}
use Rattle.tree_text.proofs.runs.name_length.Goals as goal

pub loop-index-preserved : goal.loop-index-preserved
loop-index-preserved c =
    one-more-passes is_name_byte c.as_bytes-byte-items.result.now c.args.text.now c.loop-index.index c.as_bytes-byte-items.ensures.value c.loop-index-test.true c.loop-index.invariant (sym c.is_part_of_name.ensures ∙ c.if-not-is_part_of_name.false)
