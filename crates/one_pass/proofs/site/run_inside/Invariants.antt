use Rattle.one_pass.specs.inner.Sweep.{BelowUpTo}
use Rattle.one_pass.proofs.site.run_inside.Given as goal

abbrev pub invariant-loop-end : goal.invariant-loop-end
invariant-loop-end l = BelowUpTo l.depth l.slot l.aims l.end
