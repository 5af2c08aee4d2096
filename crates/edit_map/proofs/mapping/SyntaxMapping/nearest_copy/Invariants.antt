use Rattle.std.proofs.Common.{length}
use Rattle.edit_map.specs.inner.Nearest.{PassesTo}
use Rattle.edit_map.proofs.mapping.SyntaxMapping.nearest_copy.Given as goal

abbrev pub invariant-up : goal.invariant-up
invariant-up l = PassesTo l.fn.self l.fn.node l.here

abbrev pub decreases-up : goal.decreases-up
decreases-up l = length l.here.path
