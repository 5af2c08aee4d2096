use Rattle.std.proofs.Common.{◌≡◌, ℕ, List, Result, Ok, Err, IfOk, string_bytes, sym, subst}
use Rattle.script_lines.specs.declared.dialect.Dialect.{Dialect}
use Rattle.syned_script.specs.Script.{Outcome, MeansFor}
use Rattle.syned_script.specs.ShownValue.{outcome_of}
use Rattle.syned_run.specs.Answer.{IsOutcome, printed, status_of}
use Rattle.syned_run.specs.inner.ExitCode.{exit_code}
use Rattle.syned_run.specs.declared.answer.Answer.{Answer}
use Rattle.syned_run.proofs.Printed.{done_alone}
use Rattle.syned_run.proofs.answer.answer_to_text.Goals as goal

outcome : {A E : Type 0} (d : Dialect) (status : A → ℕ) (text : A → List ℕ) (script : List ℕ) (o : Outcome) → MeansFor d script o → (r : Result A E) → IfOk r (λ a. status a ≡ status_of o) → IfOk r (λ a. text a ≡ printed o) → IfOk r (λ a. IsOutcome d script (status a) (text a))
outcome d status text script o means (Ok a) s t = (o, means, s, t)
outcome d status text script o means (Err e) s t = tt

pub returns-in-Ok : goal.returns-in-Ok
returns-in-Ok c =
    let done = c.in-Ok.done in
    let status = subst (λ n. IfOk c.edit_answer.result (λ (a : Answer). exit_code a.status ≡ n)) (sym (done_alone done.edit done.words done.shown)) c.edit_answer.ensures.status in
    outcome c.args.dialect (λ (a : Answer). exit_code a.status) (λ (a : Answer). string_bytes a.text) c.args.script.now (outcome_of done.edit done.words done.shown) c.in-Ok.ensures.ok c.edit_answer.result status c.edit_answer.ensures.text
