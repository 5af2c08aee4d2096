use Rattle.std.proofs.Common.{◌≡◌, ◌++◌, drop}
use Rattle.text_edit.specs.Lines.{starts_from, line_starts}
use Rattle.text_edit.proofs.line_index.line_starts.Given as goal

abbrev pub invariant-loop-index : goal.invariant-loop-index
invariant-loop-index l = l.starts.items ++ starts_from l.index (drop l.index l.text) ≡ line_starts l.text
