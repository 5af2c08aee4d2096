use Rattle.std.proofs.Common.{length}
use denote.Text.{Utf8}
use denote.Shadow.{shadow}
use Rattle.script_lines.specs.inner.Word.{IsBehindSpaces}
use Rattle.script_lines.proofs.spaces.without_first_spaces.Given as goal

abbrev pub invariant-loop-rest : goal.invariant-loop-rest
invariant-loop-rest l = record { is_text : shadow (Utf8 l.left); behind : IsBehindSpaces l.text l.left }

abbrev pub decreases-loop-rest : goal.decreases-loop-rest
decreases-loop-rest l = length l.left
