use Rattle.std.proofs.Common.{◌<◌, length, subst, sym}
use Rattle.edit_plan.specs.Run.{ShowsPayload}
use Rattle.edit_plan.proofs.RunFacts.{some-number, payload-shown}
use Rattle.edit_plan.proofs.edit_run.EditRun.payload.Goals as goal

pub payload-requires : goal.payload-requires
payload-requires c = some-number _ _ c.self.invariant c.args.change (subst (λ r. c.args.change < length r.plan.changes) (sym c.self.view_is) c.requires)

pub returns : goal.returns
returns c = subst (λ r. ShowsPayload r c.args.change c.payload.result) c.self.view_is (payload-shown _ _ c.self.invariant c.args.change _ c.payload.ensures)
