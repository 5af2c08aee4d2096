use Rattle.std.proofs.Common.{◌∷◌, [], refl, sym, ◌∙◌}
use Rattle.std.proofs.lemmas.Bool.{false≢true}
use Rattle.script_lines.specs.Line.{IsRef, shift_word, words}
use Rattle.script_lines.specs.LineValue.{language_of}
use Rattle.script_lines.specs.inner.Taken.{IsLast, IsNamed}
use Rattle.script_lines.proofs.OneCommand.{only-shifted}
use Rattle.script_lines.proofs.Refusing.{bad-read, err-read, behind-taken}
use Rattle.script_lines.proofs.line.shift_line.Goals as goal

pub returns-in_err-test_wide : goal.returns-in_err-test_wide
returns-in_err-test_wide c = bad-read (language_of c.args.language.now) (shift_word c.args.shift) (words c.args.fields.now.rest.now) c.from_residual.result _ c.from_residual.ensures.1 (λ line is l said.
    let says = only-shifted (language_of c.args.language.now) line c.args.shift _ is l said in
    false≢true (sym c.in_err-test_wide.ensures.bad ∙ says.wide))

pub returns-in_err-name : goal.returns-in_err-name
returns-in_err-name c = bad-read (language_of c.args.language.now) (shift_word c.args.shift) (words c.args.fields.now.rest.now) c.from_residual-in_err-name.result _ c.from_residual-in_err-name.ensures.1 (λ line is l said.
    let says = (only-shifted (language_of c.args.language.now) line c.args.shift _ is l said).says in
    c.in_err-name.ensures.bad says.name (says.field ∷ [], record { word = says.name; first = says.is; says = (refl, says.named) }))

pub returns-in_err-from : goal.returns-in_err-from
returns-in_err-from c = err-read (language_of c.args.language.now) (IsLast IsRef (words c.name.new.self.rest.now)) (shift_word c.args.shift) (words c.args.fields.now.rest.now) c.from_residual-in_err-from.result _ c.from_residual-in_err-from.ensures.1 c.in_err-from.ensures.bad (λ line is l said.
    let says = (only-shifted (language_of c.args.language.now) line c.args.shift _ is l said).says in
    (says.node, record { word = says.field; first = behind-taken IsNamed _ _ _ says.name _ c.in_ok-name.ensures.ok says.is; says = says.referred }))
