use Rattle.std.proofs.Common.{ap, ◌∙◌, ◌++◌, map}
use Rattle.std.specs.List.{flat_map}
use Rattle.cst_core.specs.Tree.{text}
use Rattle.cst_core.specs.Element.{subtree}
use Rattle.syned_run.specs.Answer.{note_text, places_of}
use Rattle.syned_run.specs.inner.Printing.{note_shown}
use Rattle.syned_run.proofs.Printed.{with_notes}
use Rattle.syned_run.proofs.print.print_edit.Goals as goal

pub returns : goal.returns
returns c =
    let edit = c.args.edit.now in
    let notes = map (note_shown c.args.ranges edit) c.args.words.now in
    c.in_ok-push_notes.ensures
    ∙ ap (λ begun. begun ++ flat_map note_text notes) c.in_ok-out.ensures
    ∙ with_notes (text (subtree edit.new_root)) (places_of c.args.ranges edit.changed) notes
