use Rattle.std.proofs.Common.{◌≡◌, take}
use Rattle.edit_map.proofs.mapping.SyntaxMapping.cloned_pairs.Given as goal

abbrev pub invariant-loop-input : goal.invariant-loop-input
invariant-loop-input l = l.pairs.items ≡ take l.input-index l.self
