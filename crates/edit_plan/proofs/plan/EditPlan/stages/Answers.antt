use Rattle.std.proofs.Common.{subst, sym, ◌≡◌, map, false}
use Rattle.std.specs.Prelude.{All, IfOk}
use Rattle.cst_core.specs.Element.{subtree}
use Rattle.edit_change.specs.inner.DocumentOrder.{FitsSome}
use Rattle.edit_steps.specs.inner.Stages.{Begins, done_in}
use Rattle.edit_plan.proofs.RunFacts.{begun-both}
use Rattle.edit_plan.proofs.plan.EditPlan.stages.Goals as goal

pub new-requires-clause-fit : goal.new-requires-clause-fit
new-requires-clause-fit c =
    subst (All FitsSome) (sym c.deref.ensures.value) (λ k d l. (c.self.inside.root, c.self.invariant.is_plan.fit k d l))

pub returns-clause-running : goal.returns-clause-running
returns-clause-running c =
    let begins = subst (λ cs. IfOk c.new.result (Begins cs (subtree c.self.inside.root))) c.deref.ensures.value c.new.ensures.stages in
    let none = subst (λ cs. IfOk c.new.result (λ s. done_in s ≡ map (λ d. false) cs)) c.deref.ensures.value c.new.ensures.none_done in
    begun-both _ _ c.new.result c.self.view_is c.self.invariant.is_plan begins none
