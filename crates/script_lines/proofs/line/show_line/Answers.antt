use Rattle.std.proofs.Common.{codes, refl, sym, ◌∙◌}
use Rattle.std.proofs.lemmas.Bool.{false≢true}
use Rattle.script_lines.specs.Line.{detail_name, words}
use Rattle.script_lines.specs.LineValue.{language_of}
use Rattle.script_lines.proofs.OneCommand.{only-show}
use Rattle.script_lines.proofs.Refusing.{bad-read}
use Rattle.script_lines.proofs.line.show_line.Goals as goal

pub returns-in_err-test_wide : goal.returns-in_err-test_wide
returns-in_err-test_wide c = bad-read (language_of c.args.language.now) (codes "show") (words c.args.fields.now.rest.now) c.from_residual.result _ c.from_residual.ensures.1 (λ line is l said.
    let says = only-show (language_of c.args.language.now) line _ is l said in
    false≢true (sym c.in_err-test_wide.ensures.bad ∙ says.wide))

pub returns-in_err-detail : goal.returns-in_err-detail
returns-in_err-detail c = bad-read (language_of c.args.language.now) (codes "show") (words c.args.fields.now.rest.now) c.from_residual-in_err-detail.result _ c.from_residual-in_err-detail.ensures.1 (λ line is l said.
    let says = only-show (language_of c.args.language.now) line _ is l said in
    c.in_err-detail.ensures.bad says.detail (record { word = detail_name says.detail; first = says.is; says = refl }))
