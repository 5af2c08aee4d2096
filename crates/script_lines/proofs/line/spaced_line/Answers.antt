use Rattle.std.proofs.Common.{codes, sym, subst, ◌∙◌}
use Rattle.std.proofs.lemmas.Bool.{false≢true}
use Rattle.script_lines.specs.Line.{Each, IsRef, words}
use Rattle.script_lines.specs.LineValue.{language_of}
use Rattle.script_lines.specs.inner.Commands.{BeginsPlace}
use Rattle.script_lines.proofs.OneCommand.{only-spaced}
use Rattle.script_lines.proofs.Refusing.{bad-read, err-read, behind-place}
use Rattle.script_lines.proofs.line.spaced_line.Goals as goal

pub returns-in_err-test_wide : goal.returns-in_err-test_wide
returns-in_err-test_wide c = bad-read (language_of c.args.language.now) (codes "spaced") (words c.args.fields.now.rest.now) c.from_residual.result _ c.from_residual.ensures.1 (λ line is l said.
    let says = only-spaced (language_of c.args.language.now) line _ is l said in
    false≢true (sym c.in_err-test_wide.ensures.bad ∙ says.wide))

pub returns-in_err-at : goal.returns-in_err-at
returns-in_err-at c = err-read (language_of c.args.language.now) (BeginsPlace (words c.args.fields.now.rest.now)) (codes "spaced") (words c.args.fields.now.rest.now) c.from_residual-in_err-at.result _ c.from_residual-in_err-at.ensures.1 c.in_err-at.ensures.bad (λ line is l said.
    let says = (only-spaced (language_of c.args.language.now) line _ is l said).says in
    (says.at, (says.others, record { word = says.word; beside = says.beside; first = says.is; says = says.placed })))

pub returns-in_err-payload : goal.returns-in_err-payload
returns-in_err-payload c = err-read (language_of c.args.language.now) (Each IsRef (words c.read_position.new.fields.rest.now)) (codes "spaced") (words c.args.fields.now.rest.now) c.from_residual-in_err-payload.result _ c.from_residual-in_err-payload.ensures.1 c.in_err-payload.ensures.bad (λ line is l said.
    let says = (only-spaced (language_of c.args.language.now) line _ is l said).says in
    (says.payload, subst (λ fs. Each IsRef fs says.payload) (sym (behind-place _ _ _ says.word says.beside _ c.in_ok-at.ensures.ok says.is)) says.referred))
