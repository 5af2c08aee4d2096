use Rattle.std.proofs.Common.{codes}
use Rattle.script_lines.specs.Line.{words}
use Rattle.script_lines.proofs.OneCommand.{only-finish}
use Rattle.script_lines.proofs.Refusing.{bad-read}
use Rattle.script_lines.proofs.line.finish_line.Goals as goal

pub returns-in_err-end : goal.returns-in_err-end
returns-in_err-end c = λ lang. bad-read lang (codes "finish") (words c.args.fields.now.rest.now) c.from_residual.result _ c.from_residual.ensures.1 (λ line is l said.
    let says = only-finish lang line _ is l said in
    c.in_err-end.ensures.bad says)
