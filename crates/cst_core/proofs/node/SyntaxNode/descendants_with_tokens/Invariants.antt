use Rattle.std.proofs.Common.{◌≡◌, ◌++◌, length}
use Rattle.std.specs.Prelude.{flat_map, reverse}
use Rattle.cst_core.specs.Navigation.{elements_of}
use Rattle.cst_core.proofs.Elements.{listed}
use Rattle.cst_core.proofs.node.SyntaxNode.descendants_with_tokens.Given as goal

abbrev pub decreases-walk : goal.decreases-walk
decreases-walk l = length (flat_map listed (reverse l.waiting.items))

abbrev pub invariant-walk : goal.invariant-walk
invariant-walk l = l.all.items ++ flat_map listed (reverse l.waiting.items) ≡ elements_of l.fn.self
