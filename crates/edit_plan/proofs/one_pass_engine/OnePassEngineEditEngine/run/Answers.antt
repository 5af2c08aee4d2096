use Rattle.std.proofs.Common.{rules}
use Rattle.edit_plan.proofs.one_pass_engine.OnePassEngineEditEngine.run.Goals as goal

pub returns-clause-ok : goal.returns-clause-ok
returns-clause-ok c = search rules

pub returns-clause-short : goal.returns-clause-short
returns-clause-short c = search rules

pub returns-clause-refused : goal.returns-clause-refused
returns-clause-refused c = search rules

pub returns-clause-engine : goal.returns-clause-engine
returns-clause-engine c = search rules
