use Rattle.std.specs.Prelude.{◌≡◌, None}
use Rattle.std.proofs.lemmas.List.Elements.{recursion_from_All}
use Rattle.edit_change.specs.Nesting.{owner}
use Rattle.edit_plan.proofs.Unowned.{text-unowned}
use Rattle.edit_plan.proofs.laws.text_is_filled.Goals as goal

pub returns : goal.returns
returns c changes places root none =
    text-unowned changes places root (recursion_from_All (λ d. owner changes d ≡ None) changes none)
