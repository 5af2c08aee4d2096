use Rattle.std.proofs.Common.{◌∷◌, codes, sym, ◌∙◌, ap}
use Rattle.std.proofs.lemmas.Bool.{false≢true}
use Rattle.script_lines.specs.Line.{words}
use Rattle.script_lines.specs.LineValue.{language_of}
use Rattle.script_lines.proofs.OneCommand.{only-kinds}
use Rattle.script_lines.proofs.Refusing.{bad-read}
use Rattle.script_lines.proofs.line.kinds_line.Goals as goal

pub returns-in_err-test_wide : goal.returns-in_err-test_wide
returns-in_err-test_wide c = bad-read (language_of c.args.language.now) (codes "kinds") (words c.args.fields.now.rest.now) c.from_residual.result _ c.from_residual.ensures.1 (λ line is l said.
    false≢true (sym c.in_err-test_wide.ensures.bad ∙ only-kinds (language_of c.args.language.now) line _ is l said))

pub returns : goal.returns
returns c = λ line is. (c.in_ok-test_wide.ensures.ok, is ∙ ap (λ l. codes "kinds" ∷ l) (sym c.in_ok-names.ensures))
