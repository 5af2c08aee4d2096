use Rattle.std.proofs.Common.{◌<◌, length, subst, sym}
use Rattle.edit_plan.specs.Run.{TellsReady}
use Rattle.edit_plan.proofs.RunFacts.{some-number, ready-told}
use Rattle.edit_plan.proofs.edit_run.EditRun.ready.Goals as goal

pub ready-requires : goal.ready-requires
ready-requires c = some-number _ _ c.self.invariant c.args.change (subst (λ r. c.args.change < length r.plan.changes) (sym c.self.view_is) c.requires)

pub returns : goal.returns
returns c = subst (λ r. TellsReady r c.args.change c.ready.result) c.self.view_is (ready-told _ _ c.self.invariant c.args.change _ c.ready.ensures)
