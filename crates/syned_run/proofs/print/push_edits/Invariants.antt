use Rattle.std.proofs.Common.{◌≡◌, ◌++◌, take, string_bytes}
use Rattle.std.specs.List.{flat_map}
use Rattle.syntax_editor.specs.TextPiece.{as_piece}
use Rattle.syned_run.specs.Answer.{edit_line}
use Rattle.syned_run.proofs.print.push_edits.Given as goal

abbrev pub invariant-loop-edit : goal.invariant-loop-edit
invariant-loop-edit l = string_bytes l.out ≡ string_bytes l.initial.out ++ flat_map (λ e. edit_line (as_piece e)) (take l.edit-index l.edits)
