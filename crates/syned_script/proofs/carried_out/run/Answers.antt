use Rattle.std.proofs.Common.{ℕ, List, Option, Some, Vec, option_map, sym, ◌∙◌, ap, subst}
use Rattle.std.specs.Global.{Global}
use Rattle.syntax_editor.specs.ExecuteRefusal.{ExecuteRefuses}
use Rattle.syned_script.specs.StopOfError.{stop_of_execute}
use Rattle.syned_script.specs.inner.Run.{RunStops}
use Rattle.syned_script.specs.inner.Stops.{StopsFor}
use Rattle.syned_script.proofs.Stopping.{mapped-err}
use Rattle.syned_script.proofs.Ending.{order-stops}
use Rattle.syned_script.proofs.carried_out.run.Goals as goal

pub returns-in-Some-clause-stops : goal.returns-in-Some-clause-stops
returns-in-Some-clause-stops c =
    let listed : Option (Vec ℕ Global) → Option (List ℕ) = option_map (λ v. v.items) in
    let plan = c.args.plan.now in
    let next = c.args.ids.now in
    let order = ap Some c.deref.ensures.value ∙ sym (ap listed c.in-Some.is) in
    mapped-err (StopsFor ⊥ (RunStops plan (listed c.args.order) next)) (ExecuteRefuses plan c.deref.result.now next) stop_of_execute c.execute.result c.map_err-in-Some.result
    (λ e h. subst (λ o. StopsFor ⊥ (RunStops plan o next) (stop_of_execute e)) order (order-stops plan c.deref.result.now next e h)) c.map_err-in-Some.ensures.cases c.execute.ensures.refused
