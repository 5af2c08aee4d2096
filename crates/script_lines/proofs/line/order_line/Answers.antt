use Rattle.std.proofs.Common.{codes, rules}
use Rattle.script_lines.specs.Line.{Each, IsNumber, words}
use Rattle.script_lines.proofs.OneCommand.{only-order}
use Rattle.script_lines.proofs.Refusing.{err-read}
use Rattle.script_lines.proofs.line.order_line.Goals as goal

pub returns-in_err-order : goal.returns-in_err-order
returns-in_err-order c = λ lang. err-read lang (Each IsNumber (words c.args.fields.now.rest.now)) (codes "order") (words c.args.fields.now.rest.now) c.from_residual.result _ c.from_residual.ensures.1 c.in_err-order.ensures.bad (λ line is l said.
    let says = only-order lang line _ is l said in
    (says.order, says.numbered))

pub returns : goal.returns
returns c = search rules
