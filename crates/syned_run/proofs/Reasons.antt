-- Why a script has no edit.
--     no-script-ends      bytes that are no script
--     text-ends           a script that is text and not too long
--     stops-without       one that ends at a line, and not because memory ran out
--     reason-of           what is said of it
use Rattle.std.proofs.Common.{◌≡◌, ◌≢◌, ◌<◌, ℕ, List, inl, inr, refl, subst, arith}
use Rattle.script_lines.specs.declared.dialect.Dialect.{Dialect}
use Rattle.syned_script.specs.Script.{Refused, BadLine, StopsAtFor}
use Rattle.syned_script.specs.declared.stop.Stop.{Stop}
use Rattle.syned_script.specs.declared.stop.Stop.TheVariants as stop
use Rattle.syned_run.specs.Answer.{IsNoScript, IsOutcome, bad_text, printed}
use Rattle.syned_run.specs.Bytes.{EndsInFor, HasNoEdit, IsReasonFor}
use Rattle.syned_run.specs.inner.Responding.{OutcomeIn, IsReasonOf}

module _ (d : Dialect) where
  pub no-script-ends : (script : List ℕ) → IsNoScript d script → HasNoEdit d script
  no-script-ends script h = (2, omega arith, (bad_text 0, inl (h, refl, refl)))

  pub text-ends : (script text : List ℕ) (status : ℕ) → text ≡ script → (IsNoScript d script → ⊥) → OutcomeIn d text status → EndsInFor d script status
  text-ends script text status same is (answer, outcome) = (answer, inr (is, subst (λ s. IsOutcome d s status answer) same outcome))

  pub stops-without : (script : List ℕ) (n : ℕ) (s : Stop) → s ≢ stop.Memory → StopsAtFor d script n s → (status : ℕ) × (0 < status) × OutcomeIn d script status
  stops-without script n (stop.Bad f) remembered h = (2, omega arith, (printed (BadLine n), (BadLine n, h, refl, refl)))
  stops-without script n (stop.Refused r) remembered h = (1, omega arith, (printed (Refused r), (Refused r, h.0, refl, refl)))
  stops-without script n stop.Memory remembered h = absurd (remembered refl)

  pub reason-of : (script text reason : List ℕ) → text ≡ script → (IsNoScript d script → ⊥) → IsReasonOf d text reason → IsReasonFor d script reason
  reason-of script text reason same is (long, (status, above, outcome)) = (long, (status, above, text-ends script text status same is outcome))
