use Rattle.std.proofs.Common.{◌≡◌, ◌∙◌, ap}
use Rattle.syntax_editor.specs.Kinds.{COMMA}
use Rattle.syntax_editor.specs.ElementForms.TheVariants.{Node}
use Rattle.syntax_editor.specs.Editor.{after_call}
use Rattle.syntax_editor.specs.RecordCall.{Replacing}
use Rattle.list_removal.specs.Removal.{removal}
use Rattle.callers.proofs.assist.record.Goals as goal

pub returns : goal.returns
returns c =
    let both : c.replace-2.new.self ≡ after_call (Replacing (Node c.args.second.now) (Node c.args.first.now)) (after_call (Replacing (Node c.args.first.now) (Node c.args.second.now)) c.args.editor.now) =
    c.in_ok-replace-2.ensures.recorded ∙ ap (after_call (Replacing (Node c.args.second.now) (Node c.args.first.now))) c.in_ok-replace.ensures.recorded in
    c.in_ok-remove_separated.ensures.recorded ∙ ap (λ e. after_call (removal COMMA (Node e)) c.replace-2.new.self) c.in_ok-try_clone.ensures ∙ ap (after_call (removal COMMA (Node c.args.third.now))) both
