use Rattle.std.proofs.Common.{◌∷◌, codes, sym, subst, ◌∙◌}
use Rattle.std.proofs.lemmas.Bool.{false≢true}
use Rattle.script_lines.specs.Line.{IsRef, words}
use Rattle.script_lines.specs.LineValue.{language_of}
use Rattle.script_lines.specs.inner.Taken.{AreRoundBar, Begins, IsKindName}
use Rattle.script_lines.proofs.OneCommand.{only-wrap}
use Rattle.script_lines.proofs.Refusing.{bad-read, err-read, behind-taken}
use Rattle.script_lines.proofs.line.wrap_line.Goals as goal

pub returns-in_err-test_wide : goal.returns-in_err-test_wide
returns-in_err-test_wide c = bad-read (language_of c.args.language.now) (codes "wrap") (words c.args.fields.now.rest.now) c.from_residual.result _ c.from_residual.ensures.1 (λ line is l said.
    let says = only-wrap (language_of c.args.language.now) line _ is l said in
    false≢true (sym c.in_err-test_wide.ensures.bad ∙ says.wide))

pub returns-in_err-node : goal.returns-in_err-node
returns-in_err-node c = err-read (language_of c.args.language.now) (Begins IsRef (words c.args.fields.now.rest.now)) (codes "wrap") (words c.args.fields.now.rest.now) c.from_residual-in_err-node.result _ c.from_residual-in_err-node.ensures.1 c.in_err-node.ensures.bad (λ line is l said.
    let says = only-wrap (language_of c.args.language.now) line _ is l said in
    (says.node, (says.name ∷ says.others, record { word = says.field; first = says.is; says = says.referred })))

pub returns-in_err-kind : goal.returns-in_err-kind
returns-in_err-kind c = bad-read (language_of c.args.language.now) (codes "wrap") (words c.args.fields.now.rest.now) c.from_residual-in_err-kind.result _ c.from_residual-in_err-kind.ensures.1 (λ line is l said.
    let says = only-wrap (language_of c.args.language.now) line _ is l said in
    c.in_err-kind.ensures.bad says.kind (says.others, record { word = says.name; first = behind-taken IsRef _ _ _ says.field _ c.in_ok-node.ensures.ok says.is; says = says.is_kind }))

pub returns-in_err-before : goal.returns-in_err-before
returns-in_err-before c = err-read (language_of c.args.language.now) (AreRoundBar (words c.kind.new.self.rest.now)) (codes "wrap") (words c.args.fields.now.rest.now) c.from_residual-in_err-before.result _ c.from_residual-in_err-before.ensures.1 c.in_err-before.ensures.bad (λ line is l said.
    let says = only-wrap (language_of c.args.language.now) line _ is l said in
    let behind = behind-taken IsRef _ _ _ says.field _ c.in_ok-node.ensures.ok says.is in
    let others = behind-taken (IsKindName c.args.language.now.names) _ _ _ says.name _ c.in_ok-kind.ensures.ok behind in
    (says.refs, subst (λ fs. AreRoundBar fs says.refs) (sym others) says.round))
