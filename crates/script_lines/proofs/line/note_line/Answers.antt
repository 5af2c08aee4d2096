use Rattle.std.proofs.Common.{◌∷◌, [], codes, refl}
use Rattle.script_lines.specs.Line.{IsRef, words}
use Rattle.script_lines.specs.inner.Taken.{IsLast, IsNamed}
use Rattle.script_lines.proofs.OneCommand.{only-note}
use Rattle.script_lines.proofs.Refusing.{bad-read, err-read, behind-taken}
use Rattle.script_lines.proofs.line.note_line.Goals as goal

pub returns-in_err-word : goal.returns-in_err-word
returns-in_err-word c = λ lang. bad-read lang (codes "note") (words c.args.fields.now.rest.now) c.from_residual.result _ c.from_residual.ensures.1 (λ line is l said.
    let says = only-note lang line _ is l said in
    c.in_err-word.ensures.bad says.word (says.field ∷ [], record { word = says.word; first = says.is; says = (refl, says.named) }))

pub returns-in_err-element : goal.returns-in_err-element
returns-in_err-element c = λ lang. err-read lang (IsLast IsRef (words c.name.new.self.rest.now)) (codes "note") (words c.args.fields.now.rest.now) c.from_residual-in_err-element.result _ c.from_residual-in_err-element.ensures.1 c.in_err-element.ensures.bad (λ line is l said.
    let says = only-note lang line _ is l said in
    (says.element, record { word = says.field; first = behind-taken IsNamed _ _ _ says.word _ c.in_ok-word.ensures.ok says.is; says = says.referred }))
