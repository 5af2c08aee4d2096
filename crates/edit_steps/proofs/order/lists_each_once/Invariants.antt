use Rattle.std.proofs.Common.{◌≡◌, length}
use Rattle.edit_steps.proofs.EachOnce.{IsMet}
use Rattle.edit_steps.proofs.order.lists_each_once.Given as goal

abbrev pub invariant-loop-number : goal.invariant-loop-number
invariant-loop-number l = record {
  long : length l.met.items ≡ length l.changes;
  met : IsMet l.changes l.order l.number-index l.met.items;
}
