use Rattle.syned_script.proofs.NothingShown.{only-edited}
use Rattle.syned_script.proofs.carried_out.carry_out.Goals as goal

pub returns-clause-ok : goal.returns-clause-ok
returns-clause-ok c = (only-edited c.args.script.now c.carry_out_for.result c.carry_out_for.ensures.ok).0

pub returns-clause-nothing : goal.returns-clause-nothing
returns-clause-nothing c = (only-edited c.args.script.now c.carry_out_for.result c.carry_out_for.ensures.ok).1
