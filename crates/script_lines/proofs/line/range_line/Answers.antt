use Rattle.std.proofs.Common.{◌∷◌, codes, sym, subst}
use Rattle.script_lines.specs.Line.{Each, IsRef, words}
use Rattle.script_lines.specs.inner.Taken.{Begins}
use Rattle.script_lines.proofs.OneCommand.{only-range}
use Rattle.script_lines.proofs.Refusing.{err-read, behind-taken}
use Rattle.script_lines.proofs.line.range_line.Goals as goal

pub returns-in_err-first : goal.returns-in_err-first
returns-in_err-first c = λ lang. err-read lang (Begins IsRef (words c.args.fields.now.rest.now)) (codes "range") (words c.args.fields.now.rest.now) c.from_residual.result _ c.from_residual.ensures.1 c.in_err-first.ensures.bad (λ line is l said.
    let says = only-range lang line _ is l said in
    (says.start, (says.second ∷ says.others, record { word = says.first; first = says.is; says = says.is_start })))

pub returns-in_err-last : goal.returns-in_err-last
returns-in_err-last c = λ lang. err-read lang (Begins IsRef (words c.reference.new.self.rest.now)) (codes "range") (words c.args.fields.now.rest.now) c.from_residual-in_err-last.result _ c.from_residual-in_err-last.ensures.1 c.in_err-last.ensures.bad (λ line is l said.
    let says = only-range lang line _ is l said in
    (says.end, (says.others, record { word = says.second; first = behind-taken IsRef _ _ _ says.first _ c.in_ok-first.ensures.ok says.is; says = says.is_end })))

pub returns-in_err-payload : goal.returns-in_err-payload
returns-in_err-payload c = λ lang. err-read lang (Each IsRef (words c.reference-2.new.self.rest.now)) (codes "range") (words c.args.fields.now.rest.now) c.from_residual-in_err-payload.result _ c.from_residual-in_err-payload.ensures.1 c.in_err-payload.ensures.bad (λ line is l said.
    let says = only-range lang line _ is l said in
    (says.payload, subst (λ fs. Each IsRef fs says.payload) (sym (behind-taken IsRef _ _ _ says.second _ c.in_ok-last.ensures.ok (behind-taken IsRef _ _ _ says.first _ c.in_ok-first.ensures.ok says.is))) says.referred))
