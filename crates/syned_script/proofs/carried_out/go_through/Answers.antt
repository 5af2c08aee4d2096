use Rattle.std.proofs.Common.{drop, IfErr, ◌∙◌, ap, subst}
use Rattle.syned_script.specs.Script.{lines_in, StopsAtFor}
use Rattle.syned_script.specs.inner.SessionState.{state_of}
use Rattle.syned_script.specs.inner.Run.{texts_in, Reached, EndStops}
use Rattle.syned_script.specs.declared.stop.Stopped.{Stopped}
use Rattle.syned_script.proofs.Stopping.{by-err}
use Rattle.syned_script.proofs.LinesCarried.{ends-badly}
use Rattle.syned_script.proofs.carried_out.go_through.Goals as goal

pub returns-in_err-test_end-clause-err : goal.returns-in_err-test_end-clause-err
returns-in_err-test_end-clause-err c =
    let script = c.args.script.now in
    let number = c.in_ok-number.number in
    let d = c.args.session.now.language.dialect in
    let t = state_of c.record.new.session in
    let error = c.in_err-test_end.field-0.0 in
    let reached = subst (λ l. Reached d l number t) (ap texts_in c.deref.ensures.value ∙ c.in_ok-lines.ensures.lines) c.in_ok-number.ensures.reached in
    let bad = subst (λ l. EndStops t (drop number l) number error) (ap texts_in c.deref-2.ensures.value ∙ c.in_ok-lines.ensures.lines) c.in_err-test_end.ensures.err in
    by-err (λ r. IfErr r (λ (stopped : Stopped). StopsAtFor d script stopped.line stopped.stop)) c.from_residual-in_err-test_end.result error c.from_residual-in_err-test_end.ensures.1
    (ends-badly d (lines_in script) number t error reached bad)
