use Rattle.std.proofs.Common.{◌≡◌, ◌++◌, string_bytes}
use Rattle.tree_text.specs.KindNames.{text_in}
use Rattle.tree_text.proofs.OpenRests.{work}
use Rattle.tree_text.proofs.OpenTexts.{rest_text, left_text}
use Rattle.tree_text.proofs.write.push_node.Given as goal

abbrev pub invariant-loop-child : goal.invariant-loop-child
invariant-loop-child l =
    string_bytes l.out ++ left_text (text_in l.names) l.rest l.above.items ≡ string_bytes l.initial.out ++ rest_text (text_in l.names) l.initial.rest

abbrev pub decreases-loop-child : goal.decreases-loop-child
decreases-loop-child l = work l.rest l.above.items
