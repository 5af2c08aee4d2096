use Rattle.std.proofs.Common.{ℕ, List, Result, IfOk, Option, String, string_bytes, subst, sym, refl}
use Rattle.std.specs.Global.{Global}
use Rattle.std.specs.Option.{MatchOption}
use Rattle.std.specs.declared.alloc.AllocError.{AllocError}
use Rattle.script_lines.specs.declared.dialect.Dialect.{Dialect}
use Rattle.syned_script.specs.ShownValue.{outcome_of}
use Rattle.syned_run.specs.Answer.{printed}
use Rattle.syned_run.specs.inner.Responding.{OutcomeIn, IsReasonOf}
use Rattle.syned_run.proofs.Printed.{done_alone}
use Rattle.syned_run.proofs.Reasons.{stops-without}
use Rattle.syned_run.proofs.explained.explain_text.Goals as goal
use Rattle.syned_run.proofs.explained.explain_text.Goals.{in-Ok, in-Err+in_ok-of_stop-in-Err}

abbrev IsTold : Dialect → List ℕ → Result (Option (String Global)) AllocError → Type 0
IsTold d script r = IfOk r (λ o. MatchOption o (OutcomeIn d script 0) (λ reason. IsReasonOf d script (string_bytes reason)))

pub returns : goal.returns
returns c =
    let script = c.args.script.now in
    elim c.match-carry_out_for.branch [
      | in-Ok w ↦
          let done = w.in-Ok.field-0 in
          let outcome = outcome_of done.edit done.words done.shown in
          subst (IsTold c.args.dialect script) (sym w.result-is) (printed outcome, (outcome, w.in-Ok.ensures.ok, sym (done_alone done.edit done.words done.shown), refl))
      | in-Err+in_ok-of_stop-in-Err w ↦
          let said = w.in_ok-of_stop-in-Err.ensures in
          let stopped = w.in-Err.stopped in
          subst (IsTold c.args.dialect script) (sym w.result-is) (said.said, stops-without c.args.dialect script stopped.line stopped.stop said.remembered w.in-Err.ensures.err)
    ]
