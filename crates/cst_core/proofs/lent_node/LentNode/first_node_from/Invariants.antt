use Rattle.std.proofs.Common.{◌≡◌}
use Rattle.cst_core.specs.inner.ChildSlots.{nodes_from_slot}
use Rattle.cst_core.proofs.lent_node.LentNode.first_node_from.Given as goal

abbrev pub invariant-loop-slot : goal.invariant-loop-slot
invariant-loop-slot l = nodes_from_slot l.self l.start ≡ nodes_from_slot l.self l.slot
