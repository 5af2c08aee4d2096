use Rattle.std.proofs.Common.{◌≡◌, ◌≤◌}
use Rattle.cst_core.specs.inner.ChildSlots.{nodes_up_to}
use Rattle.cst_core.proofs.lent_node.LentNode.last_node_before.Given as goal

abbrev pub invariant-loop-slot : goal.invariant-loop-slot
invariant-loop-slot l = record {
  within : l.slot ≤ l.end;
  same : nodes_up_to l.self l.end ≡ nodes_up_to l.self l.slot;
}
