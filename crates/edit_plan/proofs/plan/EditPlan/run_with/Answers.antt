use Rattle.std.proofs.Common.{rules}
use Rattle.edit_plan.proofs.PromisesOfRuns.{ran-with}
use Rattle.edit_plan.proofs.plan.EditPlan.run_with.Goals as goal

pub returns-clause-ok : goal.returns-clause-ok
returns-clause-ok g c = search rules

pub returns-clause-short : goal.returns-clause-short
returns-clause-short g c = search rules

pub returns-clause-drawn : goal.returns-clause-drawn
returns-clause-drawn g c = search rules

pub returns-clause-refused : goal.returns-clause-refused
returns-clause-refused g c = search rules

pub returns-clause-err : goal.returns-clause-err
returns-clause-err g c = search rules

pub returns-clause-engine : goal.returns-clause-engine
returns-clause-engine g c = search rules

pub returns-clause-engine_err : goal.returns-clause-engine_err
returns-clause-engine_err g c =
    ran-with (λ answered. g.E.EditEngine.runs c.args.engine.now c.args.self.now answered c.run.new.self) c.edit_of.result c.edit_of.ensures.fits c.in_ok-rewritten.ensures.engine
