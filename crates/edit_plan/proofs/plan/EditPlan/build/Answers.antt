use Rattle.std.proofs.Common.{subst}
use Rattle.edit_plan.specs.inner.PlanRun.{IsPlanned, unregistered}
use Rattle.edit_plan.proofs.AnyRegistrations.{is-plan-with, planned-with}
use Rattle.edit_plan.proofs.plan.EditPlan.build.Goals as goal

pub invariant_of-result : goal.invariant_of-result
invariant_of-result c =
    let root = c.args.root in
    let m = c.args.mapping in
    let found = c.in_ok-order.field-0 in
    let planned = subst (λ cs. IsPlanned (unregistered root cs m) found.order.items found.fates.items found.places.items) c.deref.ensures.value c.in_ok-order.ensures.planned in
    planned-with (unregistered root c.args.changes.items m) c.args.registrations.items found.order.items found.fates.items found.places.items planned

pub returns-clause-planned : goal.returns-clause-planned
returns-clause-planned c =
    let root = c.args.root in
    let m = c.args.mapping in
    let found = c.in_ok-order.field-0 in
    let planned = subst (λ cs. IsPlanned (unregistered root cs m) found.order.items found.fates.items found.places.items) c.deref.ensures.value c.in_ok-order.ensures.planned in
    is-plan-with (unregistered root c.args.changes.items m) c.args.registrations.items planned.is_plan
