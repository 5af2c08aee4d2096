use Rattle.std.proofs.Common.{subst}
use Rattle.edit_plan.specs.inner.PlanStages.{AgreeOnPlaces}
use Rattle.edit_plan.proofs.StagesOfRuns.{places-agree}
use Rattle.edit_plan.proofs.plan.EditPlan.agree_on_places.Goals as goal

pub returns : goal.returns
returns c =
    let is = c.self.invariant.is_plan in
    subst AgreeOnPlaces c.self.view_is (λ a b are_a are_b n o d at its. places-agree c.place_is_unique.ensures _ _ (c.pairs_rise.ensures _ is.mapping_is.pairs) a b are_a are_b n o d at its)
