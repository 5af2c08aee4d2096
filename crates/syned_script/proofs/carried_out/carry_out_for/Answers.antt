use Rattle.std.proofs.Common.{IfErr, sym, ◌∙◌, ap, subst}
use Rattle.syned_script.specs.Script.{lines_in, StopsSo, StopsAtFor}
use Rattle.syned_script.specs.ShownValue.{outcome_of}
use Rattle.syned_script.specs.State.{new_state}
use Rattle.syned_script.specs.inner.SessionState.{state_of}
use Rattle.syned_script.specs.inner.Run.{Reached}
use Rattle.syned_script.specs.declared.stop.Stopped.{Stopped}
use Rattle.syned_script.proofs.Stopping.{by-err}
use Rattle.syned_script.proofs.LinesCarried.{finished, finish-refused}
use Rattle.syned_script.proofs.carried_out.carry_out_for.Goals as goal

pub go_through-requires : goal.go_through-requires
go_through-requires c =
    let is = c.new-session.ensures in
    is ∙ ap new_state (sym (ap (λ s. s.language.dialect) is))

pub returns-in_err-number-clause-err : goal.returns-in_err-number-clause-err
returns-in_err-number-clause-err c =
    let script = c.args.script.now in
    let error = c.in_err-number.field-0.0 in
    by-err (λ r. IfErr r (λ (stopped : Stopped). StopsAtFor c.args.dialect script stopped.line stopped.stop)) c.from_residual.result error c.from_residual.ensures.1
    (subst (λ d. StopsAtFor d script error.line error.stop) (ap (λ s. s.language.dialect) c.new-session.ensures) c.in_err-number.ensures.err)

pub returns-in-Ok-clause-ok : goal.returns-in-Ok-clause-ok
returns-in-Ok-clause-ok c =
    let lines = lines_in c.args.script.now in
    let t = state_of c.go_through.new.session in
    let done = c.in-Ok.ensures.done in
    let reached = subst (λ d. Reached d lines c.in_ok-number.number t) (ap (λ s. s.language.dialect) c.new-session.ensures) c.in_ok-number.ensures.reached in
    (finished c.args.dialect lines c.in_ok-number.number t done.0 (outcome_of c.in-Ok.done.edit c.in-Ok.done.words c.in-Ok.done.shown) reached c.in_ok-number.ensures.good done.1 done.2).0

pub returns-in-Err-clause-err : goal.returns-in-Err-clause-err
returns-in-Err-clause-err c =
    let lines = lines_in c.args.script.now in
    let t = state_of c.go_through.new.session in
    let reached = subst (λ d. Reached d lines c.in_ok-number.number t) (ap (λ s. s.language.dialect) c.new-session.ensures) c.in_ok-number.ensures.reached in
    subst (λ r. StopsSo c.args.dialect lines r.line r.stop) (sym c.at.ensures) (finish-refused c.args.dialect lines c.in_ok-number.number t c.in-Err.stop reached c.in_ok-number.ensures.good c.in-Err.ensures.stops)
