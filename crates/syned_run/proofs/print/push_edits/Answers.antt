use Rattle.std.proofs.Common.{◌++◌, arith, sym, ap, ◌∙◌, string_bytes}
use Rattle.std.proofs.lemmas.List.Folds.{flat_map-map}
use Rattle.syntax_editor.specs.TextPiece.{as_piece}
use Rattle.syned_run.specs.Answer.{edit_line}
use Rattle.syned_run.proofs.Printed.{all_there}
use Rattle.syned_run.proofs.print.push_edits.Goals as goal

pub returns : goal.returns
returns c =
    let whole = all_there (λ e. edit_line (as_piece e)) c.args.edits.now c.loop-edit.edit-index _ _ (omega (arith, c.loop-edit-test.false)) c.loop-edit.invariant in
    whole ∙ ap (λ l. string_bytes c.args.out.now ++ l) (sym (flat_map-map edit_line as_piece c.args.edits.now))
