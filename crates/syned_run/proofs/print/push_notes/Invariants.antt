use Rattle.std.proofs.Common.{◌≡◌, ◌++◌, take, string_bytes}
use Rattle.std.specs.List.{flat_map}
use Rattle.syned_run.specs.Answer.{note_text}
use Rattle.syned_run.specs.inner.Printing.{note_shown}
use Rattle.syned_run.proofs.print.push_notes.Given as goal

abbrev pub invariant-loop-word : goal.invariant-loop-word
invariant-loop-word l = string_bytes l.out ≡ string_bytes l.initial.out ++ flat_map (λ w. note_text (note_shown l.ranges l.edit w)) (take l.word-index l.words)
