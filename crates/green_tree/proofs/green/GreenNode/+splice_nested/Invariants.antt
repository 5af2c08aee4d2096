use Rattle.std.proofs.Common.{length}
use Rattle.green_tree.proofs.green.GreenNode.+splice_nested.Given as goal

abbrev pub decreases-splice_nested : goal.decreases-splice_nested
decreases-splice_nested l = length l.path.now
