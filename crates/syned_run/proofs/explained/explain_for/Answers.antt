use Rattle.std.proofs.Common.{◌≡◌, List, ℕ, Result, Ok, Err, IfOk, Option, Some, None, String, string_bytes}
use Rattle.std.specs.Global.{Global}
use Rattle.std.specs.Option.{MatchOption}
use Rattle.std.specs.declared.alloc.AllocError.{AllocError}
use Rattle.script_lines.specs.declared.dialect.Dialect.{Dialect}
use Rattle.syned_run.specs.Answer.{IsNoScript}
use Rattle.syned_run.specs.Bytes.{EndsInFor, IsReasonFor}
use Rattle.syned_run.specs.inner.Responding.{OutcomeIn, IsReasonOf}
use Rattle.syned_run.proofs.Reasons.{no-script-ends, text-ends, reason-of}
use Rattle.syned_run.proofs.explained.explain_for.Goals as goal

told : (d : Dialect) (script text : List ℕ) → text ≡ script → (IsNoScript d script → ⊥) → (r : Result (Option (String Global)) AllocError)
    → IfOk r (λ o. MatchOption o (OutcomeIn d text 0) (λ reason. IsReasonOf d text (string_bytes reason)))
    → IfOk r (λ o. MatchOption o (EndsInFor d script 0) (λ reason. IsReasonFor d script (string_bytes reason)))
told d script text same is (Ok None) h = text-ends d script text 0 same is h
told d script text same is (Ok (Some reason)) h = reason-of d script text (string_bytes reason) same is h
told d script text same is (Err e) h = tt

pub returns-in-Some : goal.returns-in-Some
returns-in-Some c =
    told c.args.dialect c.args.script.now c.in-Some.text.now c.in-Some.ensures.0 c.in-Some.ensures.1 c.explain_text.result c.explain_text.ensures

pub returns-in_ok-of_no_script-in-None : goal.returns-in_ok-of_no_script-in-None
returns-in_ok-of_no_script-in-None c = (c.in_ok-of_no_script-in-None.ensures, no-script-ends c.args.dialect c.args.script.now c.in-None.ensures)
