use Rattle.std.proofs.Common.{refl}
use Rattle.syned_run.proofs.Answered.{wrote_all, wrote_some}
use Rattle.syned_run.proofs.program.run_explained_for.Goals as goal

pub returns-in-Ok-clause-answered : goal.returns-in-Ok-clause-answered
returns-in-Ok-clause-answered g c = λ below.
    wrote_all c.args.dialect _ _ _ _ c.in-Ok.script.items c.deref.result.now c.respond_and_explain.result c.respond_and_explain.result c.in-Ok.ensures.left c.in-Ok.ensures.read c.deref.ensures.value refl (c.respond_and_explain.ensures.answered below)

pub returns-in-Ok-clause-failed : goal.returns-in-Ok-clause-failed
returns-in-Ok-clause-failed g c = λ is.
    wrote_some c.args.dialect _ _ _ _ c.in-Ok.script.items c.deref.result.now c.in-Ok.ensures.left c.in-Ok.ensures.read c.deref.ensures.value (c.respond_and_explain.ensures.failed is)
