use Rattle.std.proofs.Common.{◌≡◌, ◌∙◌, ap}
use Rattle.text_edit.specs.TextPiece.{pieces}
use Rattle.text_edit.specs.Cursor.{cursor}
use Rattle.text_edit.proofs.Holding.{cursor-shown}
use Rattle.text_edit.proofs.text_edits.TextEdits.cursor.Goals as goal

pub returns-clause-text : goal.returns-clause-text
returns-clause-text c =
    let listed : pieces c.deref.result.now ≡ c.args.self.now = ap pieces c.deref.ensures.value ∙ c.self.view_is in
    cursor-shown c.args.self.now c.args.start c.args.end c.cursor_of.result (c.cursor_of.ensures ∙ ap (λ es. cursor es c.args.start c.args.end) listed)
