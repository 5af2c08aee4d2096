use Rattle.std.proofs.Common.{◌≡◌, ◌++◌, ◌+◌, string_bytes}
use Rattle.tree_text.specs.KindNames.{text_in}
use Rattle.tree_text.proofs.OpenRests.{work, rest_long, rest_lines, long_after}
use Rattle.tree_text.proofs.OpenLines.{left_lines}
use Rattle.tree_text.proofs.lines.push_lines.Given as goal

abbrev pub invariant-loop-child : goal.invariant-loop-child
invariant-loop-child l = record {
  wrote : string_bytes l.out ++ left_lines (text_in l.names) l.next l.rest l.above.items ≡ string_bytes l.initial.out ++ rest_lines (text_in l.names) 1 l.start l.initial.rest;
  starts : l.next + (rest_long l.rest + long_after l.above.items) ≡ l.start + rest_long l.initial.rest;
}

abbrev pub decreases-loop-child : goal.decreases-loop-child
decreases-loop-child l = work l.rest l.above.items
