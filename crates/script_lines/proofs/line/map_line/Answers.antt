use Rattle.std.proofs.Common.{◌∷◌, [], codes}
use Rattle.script_lines.specs.Line.{IsRef, words}
use Rattle.script_lines.specs.inner.Taken.{Begins, IsLast}
use Rattle.script_lines.proofs.OneCommand.{only-map}
use Rattle.script_lines.proofs.Refusing.{err-read, behind-taken}
use Rattle.script_lines.proofs.line.map_line.Goals as goal

pub returns-in_err-parent : goal.returns-in_err-parent
returns-in_err-parent c = λ lang. err-read lang (Begins IsRef (words c.args.fields.now.rest.now)) (codes "map") (words c.args.fields.now.rest.now) c.from_residual.result _ c.from_residual.ensures.1 c.in_err-parent.ensures.bad (λ line is l said.
    let says = only-map lang line _ is l said in
    (says.parent, (says.second ∷ says.third ∷ [], record { word = says.first; first = says.is; says = says.is_parent })))

pub returns-in_err-input : goal.returns-in_err-input
returns-in_err-input c = λ lang. err-read lang (Begins IsRef (words c.reference.new.self.rest.now)) (codes "map") (words c.args.fields.now.rest.now) c.from_residual-in_err-input.result _ c.from_residual-in_err-input.ensures.1 c.in_err-input.ensures.bad (λ line is l said.
    let says = only-map lang line _ is l said in
    (says.input, (says.third ∷ [], record { word = says.second; first = behind-taken IsRef _ _ _ says.first _ c.in_ok-parent.ensures.ok says.is; says = says.is_input })))

pub returns-in_err-output : goal.returns-in_err-output
returns-in_err-output c = λ lang. err-read lang (IsLast IsRef (words c.reference-2.new.self.rest.now)) (codes "map") (words c.args.fields.now.rest.now) c.from_residual-in_err-output.result _ c.from_residual-in_err-output.ensures.1 c.in_err-output.ensures.bad (λ line is l said.
    let says = only-map lang line _ is l said in
    (says.output, record { word = says.third; first = behind-taken IsRef _ _ _ says.second _ c.in_ok-input.ensures.ok (behind-taken IsRef _ _ _ says.first _ c.in_ok-parent.ensures.ok says.is); says = says.is_output }))
