use Rattle.std.proofs.Common.{codes, sym, subst, rules}
use Rattle.script_lines.specs.Line.{Each, IsRef, words}
use Rattle.script_lines.specs.inner.Taken.{Begins}
use Rattle.script_lines.proofs.OneCommand.{only-replace}
use Rattle.script_lines.proofs.Refusing.{err-read, behind-taken}
use Rattle.script_lines.proofs.line.replace_line.Goals as goal

pub returns-in_err-target : goal.returns-in_err-target
returns-in_err-target c = λ lang. err-read lang (Begins IsRef (words c.args.fields.now.rest.now)) (codes "replace") (words c.args.fields.now.rest.now) c.from_residual.result _ c.from_residual.ensures.1 c.in_err-target.ensures.bad (λ line is l said.
    let says = only-replace lang line _ is l said in
    (says.target, (says.others, record { word = says.field; first = says.is; says = says.is_target })))

pub returns-in_err-payload : goal.returns-in_err-payload
returns-in_err-payload c = λ lang. err-read lang (Each IsRef (words c.reference.new.self.rest.now)) (codes "replace") (words c.args.fields.now.rest.now) c.from_residual-in_err-payload.result _ c.from_residual-in_err-payload.ensures.1 c.in_err-payload.ensures.bad (λ line is l said.
    let says = only-replace lang line _ is l said in
    (says.payload, subst (λ fs. Each IsRef fs says.payload) (sym (behind-taken IsRef _ _ _ says.field _ c.in_ok-target.ensures.ok says.is)) says.referred))

pub returns : goal.returns
returns c = search rules
