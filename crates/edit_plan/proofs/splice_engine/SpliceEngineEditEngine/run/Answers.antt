use Rattle.std.proofs.Common.{rules, subst}
use Rattle.std.specs.Prelude.{IfErr}
use Rattle.edit_plan.specs.Engine.{EngineRefuses}
use Rattle.edit_plan.proofs.splice_engine.SpliceEngineEditEngine.run.Goals as goal

pub returns-clause-ok : goal.returns-clause-ok
returns-clause-ok c = search rules

pub returns-clause-short : goal.returns-clause-short
returns-clause-short c = c.rewritten_by_steps.ensures.short

pub returns-clause-refused : goal.returns-clause-refused
returns-clause-refused c = subst (λ p. IfErr c.rewritten_by_steps.result (EngineRefuses p)) c.in_ok-run.ensures.plan_is c.rewritten_by_steps.ensures.refused

pub returns-clause-engine : goal.returns-clause-engine
returns-clause-engine c = search rules
