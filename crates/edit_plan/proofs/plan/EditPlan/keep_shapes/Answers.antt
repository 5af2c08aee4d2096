use Rattle.std.proofs.Common.{subst}
use Rattle.edit_plan.specs.Plan.{registered_elements}
use Rattle.edit_plan.specs.inner.PlanStages.{KeepsShapes}
use Rattle.edit_plan.proofs.WholeWay.{shapes-kept}
use Rattle.edit_plan.proofs.plan.EditPlan.keep_shapes.Goals as goal

pub returns : goal.returns
returns c =
    let is = c.self.invariant.is_plan in
    subst KeepsShapes c.self.view_is (λ tell places are n o d t r at its by. shapes-kept c.place_keeps_the_shape.ensures _ (registered_elements _) _ _ is.mapping_is.pairs is.fit tell places are n o d t r at its by)
