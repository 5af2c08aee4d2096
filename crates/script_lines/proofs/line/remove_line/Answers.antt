use Rattle.std.proofs.Common.{◌∷◌, [], codes}
use Rattle.script_lines.specs.Line.{IsRef, words}
use Rattle.script_lines.specs.LineValue.{language_of}
use Rattle.script_lines.specs.inner.Taken.{Begins, IsKindName}
use Rattle.script_lines.proofs.OneCommand.{only-remove}
use Rattle.script_lines.proofs.Refusing.{bad-read, err-read, behind-taken}
use Rattle.script_lines.proofs.line.remove_line.Goals as goal

pub returns-in_err-element : goal.returns-in_err-element
returns-in_err-element c = err-read (language_of c.args.language.now) (Begins IsRef (words c.args.fields.now.rest.now)) (codes "remove") (words c.args.fields.now.rest.now) c.from_residual.result _ c.from_residual.ensures.1 c.in_err-element.ensures.bad (λ line is l said.
    let says = only-remove (language_of c.args.language.now) line _ is l said in
    (says.element, (says.kind ∷ [], record { word = says.field; first = says.is; says = says.referred })))

pub returns-in_err-separator : goal.returns-in_err-separator
returns-in_err-separator c = bad-read (language_of c.args.language.now) (codes "remove") (words c.args.fields.now.rest.now) c.from_residual-in_err-separator.result _ c.from_residual-in_err-separator.ensures.1 (λ line is l said.
    let says = only-remove (language_of c.args.language.now) line _ is l said in
    c.in_err-separator.ensures.bad says.separator ([], record { word = says.kind; first = behind-taken IsRef _ _ _ says.field _ c.in_ok-element.ensures.ok says.is; says = says.is_kind }))

pub returns-in_err-end : goal.returns-in_err-end
returns-in_err-end c = bad-read (language_of c.args.language.now) (codes "remove") (words c.args.fields.now.rest.now) c.from_residual-in_err-end.result _ c.from_residual-in_err-end.ensures.1 (λ line is l said.
    let says = only-remove (language_of c.args.language.now) line _ is l said in
    let behind = behind-taken IsRef _ _ _ says.field _ c.in_ok-element.ensures.ok says.is in
    c.in_err-end.ensures.bad (behind-taken (IsKindName c.args.language.now.names) _ _ _ says.kind _ c.in_ok-separator.ensures.ok behind))
