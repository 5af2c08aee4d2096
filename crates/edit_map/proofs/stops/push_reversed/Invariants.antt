use Rattle.std.proofs.Common.{◌≡◌, ◌≤◌, ◌++◌, length, take, reverse}
use Rattle.edit_map.proofs.stops.push_reversed.Given as goal

abbrev pub invariant-loop-index : goal.invariant-loop-index
invariant-loop-index l = record {
  within : l.index ≤ length l.items;
  pushed : l.list.items ++ reverse (take l.index l.items) ≡ l.fn.list.items ++ reverse l.items;
}
