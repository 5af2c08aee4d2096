use Rattle.std.proofs.Common.{◌≡◌, ◌++◌, length}
use Rattle.std.specs.Prelude.{flat_map, reverse}
use Rattle.cst_core.specs.SyntaxElement.{descendants_of}
use Rattle.cst_core.proofs.node.SyntaxNode.descendants.Given as goal

abbrev pub decreases-walk : goal.decreases-walk
decreases-walk l = length (flat_map descendants_of (reverse l.waiting.items))

abbrev pub invariant-walk : goal.invariant-walk
invariant-walk l = l.all.items ++ flat_map descendants_of (reverse l.waiting.items) ≡ descendants_of l.fn.self
