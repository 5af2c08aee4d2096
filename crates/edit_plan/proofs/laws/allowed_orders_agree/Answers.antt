use Rattle.std.specs.Prelude.{ℕ, Bool, nat_lt, length, refl}
use Rattle.std.proofs.Common.{ap, sym, ◌∙◌, arith}
use Rattle.std.proofs.lemmas.Option.{same_Some}
use Rattle.edit_steps.specs.Schedule.{index_in, is_ready}
use Rattle.edit_steps.proofs.AllowedSteps.{allowed-step, allowed-complete}
use Rattle.edit_plan.proofs.StagesOfRuns.{all-carried}
use Rattle.edit_plan.proofs.laws.allowed_orders_agree.Goals as goal

pub returns-clause-next : goal.returns-clause-next
returns-clause-next c changes order i n change allowed at there =
    let step = allowed-step changes order allowed (λ m. nat_lt (index_in order m) i) i n (λ k. refl) at in
    ap (λ d. is_ready changes (λ m. nat_lt (index_in order m) i) (n, d)) (sym (same_Some step.0 change (sym step.1 ∙ there))) ∙ step.2

pub returns-clause-tree : goal.returns-clause-tree
returns-clause-tree c changes places root order allowed =
    let done : ℕ → Bool = λ m. nat_lt (index_in order m) (length order) in
    all-carried changes places done root (allowed-complete changes order allowed done (length order) (omega arith) (λ k. refl))
