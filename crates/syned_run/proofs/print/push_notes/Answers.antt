use Rattle.std.proofs.Common.{◌++◌, arith, sym, ap, ◌∙◌, string_bytes}
use Rattle.std.proofs.lemmas.List.Folds.{flat_map-map}
use Rattle.syned_run.specs.Answer.{note_text}
use Rattle.syned_run.specs.inner.Printing.{note_shown}
use Rattle.syned_run.proofs.Printed.{all_there}
use Rattle.syned_run.proofs.print.push_notes.Goals as goal

pub returns : goal.returns
returns c =
    let edit = c.args.edit.now in
    let whole = all_there (λ w. note_text (note_shown c.args.ranges edit w)) c.args.words.now c.loop-word.word-index _ _ (omega (arith, c.loop-word-test.false)) c.loop-word.invariant in
    whole ∙ ap (λ l. string_bytes c.args.out.now ++ l) (sym (flat_map-map note_text (note_shown c.args.ranges edit) c.args.words.now))
