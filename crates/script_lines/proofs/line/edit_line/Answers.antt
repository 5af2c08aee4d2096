use Rattle.std.proofs.Common.{◌∷◌, [], codes, refl}
use Rattle.script_lines.specs.Line.{IsRef, words}
use Rattle.script_lines.specs.inner.Taken.{IsLast, IsNamed}
use Rattle.script_lines.proofs.OneCommand.{only-edit}
use Rattle.script_lines.proofs.Refusing.{bad-read, err-read, behind-taken}
use Rattle.script_lines.proofs.line.edit_line.Goals as goal

pub returns-in_err-name : goal.returns-in_err-name
returns-in_err-name c = λ lang. bad-read lang (codes "edit") (words c.args.fields.now.rest.now) c.from_residual.result _ c.from_residual.ensures.1 (λ line is l said.
    let says = only-edit lang line _ is l said in
    c.in_err-name.ensures.bad says.name (says.field ∷ [], record { word = says.name; first = says.is; says = (refl, says.named) }))

pub returns-in_err-node : goal.returns-in_err-node
returns-in_err-node c = λ lang. err-read lang (IsLast IsRef (words c.name.new.self.rest.now)) (codes "edit") (words c.args.fields.now.rest.now) c.from_residual-in_err-node.result _ c.from_residual-in_err-node.ensures.1 c.in_err-node.ensures.bad (λ line is l said.
    let says = only-edit lang line _ is l said in
    (says.node, record { word = says.field; first = behind-taken IsNamed _ _ _ says.name _ c.in_ok-name.ensures.ok says.is; says = says.referred }))
