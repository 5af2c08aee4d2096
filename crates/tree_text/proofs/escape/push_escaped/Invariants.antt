use Rattle.std.proofs.Common.{◌≡◌, ◌++◌, string_bytes}
use Rattle.std.specs.Str.{encode_utf8_all}
use Rattle.tree_text.specs.Escape.{escaped}
use Rattle.tree_text.proofs.escape.push_escaped.Given as goal

abbrev pub invariant-loop-c : goal.invariant-loop-c
invariant-loop-c l = string_bytes l.out ≡ string_bytes l.initial.out ++ escaped (encode_utf8_all l.yielded)
