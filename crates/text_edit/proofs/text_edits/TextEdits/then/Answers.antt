use Rattle.std.proofs.Common.{◌≡◌, ◌∙◌, List, ap, subst}
use Rattle.text_edit.specs.TextPiece.{TextPiece, pieces}
use Rattle.text_edit.specs.Composition.{AreComposed}
use Rattle.text_edit.proofs.text_edits.TextEdits.then.Goals as goal

pub returns-clause-ok : goal.returns-clause-ok
returns-clause-ok c =
    let new = pieces c.in_ok-edits.edits.items in
    let first_is : pieces c.deref.result.now ≡ c.args.self.now = ap pieces c.deref.ensures.value ∙ c.self.view_is in
    let next_is : pieces c.deref-2.result.now ≡ c.args.next.now = ap pieces c.deref-2.ensures.value ∙ c.next.view_is in
    let P : List TextPiece → Type 0 = λ t. AreComposed t (pieces c.deref-2.result.now) new in
    let Q : List TextPiece → Type 0 = λ t. AreComposed c.args.self.now t new in
    subst Q next_is (subst P first_is c.in_ok-edits.ensures.composed)
