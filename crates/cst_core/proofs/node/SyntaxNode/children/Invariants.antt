use Rattle.std.proofs.Common.{◌≡◌}
use Rattle.cst_core.specs.inner.ChildSlots.{nodes_up_to}
use Rattle.cst_core.proofs.node.SyntaxNode.children.Given as goal

abbrev pub invariant-loop-slot : goal.invariant-loop-slot
invariant-loop-slot l = l.all.items ≡ nodes_up_to l.self l.slot
