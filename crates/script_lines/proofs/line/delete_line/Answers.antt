use Rattle.std.proofs.Common.{codes}
use Rattle.script_lines.specs.Line.{IsRef, words}
use Rattle.script_lines.specs.inner.Taken.{IsLast}
use Rattle.script_lines.proofs.OneCommand.{only-delete}
use Rattle.script_lines.proofs.Refusing.{err-read}
use Rattle.script_lines.proofs.line.delete_line.Goals as goal

pub returns-in_err-target : goal.returns-in_err-target
returns-in_err-target c = λ lang. err-read lang (IsLast IsRef (words c.args.fields.now.rest.now)) (codes "delete") (words c.args.fields.now.rest.now) c.from_residual.result _ c.from_residual.ensures.1 c.in_err-target.ensures.bad (λ line is l said.
    let says = only-delete lang line _ is l said in
    (says.target, record { word = says.field; first = says.is; says = says.referred }))
