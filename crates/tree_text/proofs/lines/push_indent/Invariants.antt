use Rattle.std.proofs.Common.{◌≡◌, ◌++◌, string_bytes}
use Rattle.tree_text.specs.inner.Indents.{indent}
use Rattle.tree_text.proofs.lines.push_indent.Given as goal

abbrev pub invariant-loop : goal.invariant-loop
invariant-loop l = string_bytes l.out ≡ string_bytes l.initial.out ++ indent l.counter
