use Rattle.std.proofs.Common.{codes, sym, subst}
use Rattle.script_lines.specs.Line.{Each, IsRef, words}
use Rattle.script_lines.specs.inner.Commands.{BeginsPlace}
use Rattle.script_lines.proofs.OneCommand.{only-insert}
use Rattle.script_lines.proofs.Refusing.{err-read, behind-place}
use Rattle.script_lines.proofs.line.insert_line.Goals as goal

pub returns-in_err-at : goal.returns-in_err-at
returns-in_err-at c = λ lang. err-read lang (BeginsPlace (words c.args.fields.now.rest.now)) (codes "insert") (words c.args.fields.now.rest.now) c.from_residual.result _ c.from_residual.ensures.1 c.in_err-at.ensures.bad (λ line is l said.
    let says = only-insert lang line _ is l said in
    (says.at, (says.others, record { word = says.word; beside = says.beside; first = says.is; says = says.placed })))

pub returns-in_err-payload : goal.returns-in_err-payload
returns-in_err-payload c = λ lang. err-read lang (Each IsRef (words c.read_position.new.fields.rest.now)) (codes "insert") (words c.args.fields.now.rest.now) c.from_residual-in_err-payload.result _ c.from_residual-in_err-payload.ensures.1 c.in_err-payload.ensures.bad (λ line is l said.
    let says = only-insert lang line _ is l said in
    (says.payload, subst (λ fs. Each IsRef fs says.payload) (sym (behind-place _ _ _ says.word says.beside _ c.in_ok-at.ensures.ok says.is)) says.referred))
