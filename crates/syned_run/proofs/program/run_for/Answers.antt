use Rattle.std.proofs.Common.{◌<◌, ◌∙◌, sym, subst}
use Rattle.syned_run.specs.inner.ExitCode.{exit_code}
use Rattle.syned_run.proofs.Answered.{wrote_all, wrote_some}
use Rattle.syned_run.proofs.program.run_for.Goals as goal

pub returns-in-Ok-clause-answered : goal.returns-in-Ok-clause-answered
returns-in-Ok-clause-answered g c = λ below.
    wrote_all c.args.dialect _ _ _ _ c.in-Ok.script.items c.deref.result.now c.code.result (exit_code c.respond.result) c.in-Ok.ensures.left c.in-Ok.ensures.read c.deref.ensures.value c.code.ensures (c.respond.ensures.answered (subst (λ s. s < 3) c.code.ensures below))

pub returns-in-Ok-clause-failed : goal.returns-in-Ok-clause-failed
returns-in-Ok-clause-failed g c = λ is.
    wrote_some c.args.dialect _ _ _ _ c.in-Ok.script.items c.deref.result.now c.in-Ok.ensures.left c.in-Ok.ensures.read c.deref.ensures.value (c.respond.ensures.failed (sym c.code.ensures ∙ is))
