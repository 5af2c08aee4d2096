use Rattle.std.proofs.Common.{length}
use Rattle.one_pass.specs.inner.OpenNodes.{IsFurther}
use Rattle.one_pass.proofs.open_nodes.push_on.Given as goal

abbrev pub decreases-loop-walk : goal.decreases-loop-walk
decreases-loop-walk l = length l.top.aims.now

abbrev pub invariant-loop-walk : goal.invariant-loop-walk
invariant-loop-walk l = IsFurther l.given l.fn.walk l.walk l.fn.top l.top
