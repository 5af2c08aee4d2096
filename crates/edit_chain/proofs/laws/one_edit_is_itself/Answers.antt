use Rattle.std.proofs.Common.{◌++◌, sym, subst, ap, ◌∙◌, refl}
use Rattle.std.proofs.lemmas.List.{append-nil}
use Rattle.edit_plan.specs.FurtherPlans.{AreCopies}
use Rattle.edit_chain.proofs.laws.one_edit_is_itself.Goals as goal

pub returns-clause-root : goal.returns-clause-root
returns-clause-root c root s = refl

pub returns-clause-found : goal.returns-clause-found
returns-clause-found c s e found are =
    let copied = are.1 in
    let is = are.2 ∙ copied.4 ∙ ap (λ xs. copied.0 ++ xs) copied.3 ∙ append-nil copied.0 in
    subst (AreCopies s.plan s.edit e) (sym is) copied.2
