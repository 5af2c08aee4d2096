use Rattle.std.proofs.Common.{◌≡◌, ◌∙◌, ◌^◌, List, ap, subst, arith}
use Rattle.text_edit.specs.TextPiece.{TextPiece, pieces, AreApart, FitText}
use Rattle.text_edit.proofs.Fitting.{AreApart-within}
use Rattle.text_edit.proofs.text_edits.TextEdits.apply.Goals as goal

pub returns-clause-within : goal.returns-clause-within
returns-clause-within c =
    let text = c.args.text.now in
    let listed : pieces c.deref.result.now ≡ c.args.self.now = ap pieces c.deref.ensures.value ∙ c.self.view_is in
    let A : List TextPiece → Type 0 = λ t. AreApart 0 t (2 ^ 64) in
    let F : List TextPiece → Type 0 = FitText text in
    AreApart-within text 0 (2 ^ 64) c.args.self.now (omega arith) (subst A c.self.view_is c.self.invariant) (subst F listed c.in_ok-tested.ensures.ok)
