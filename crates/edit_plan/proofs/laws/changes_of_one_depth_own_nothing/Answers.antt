use Rattle.std.specs.Prelude.{◌≡◌, true}
use Rattle.std.proofs.lemmas.List.Elements.{recursion_from_All}
use Rattle.edit_change.specs.RewritingLaws.{is_at_depth}
use Rattle.edit_plan.proofs.OneDepth.{own_nothing}
use Rattle.edit_plan.proofs.laws.changes_of_one_depth_own_nothing.Goals as goal

pub returns : goal.returns
returns c depth changes all =
    own_nothing depth changes (recursion_from_All (λ d. is_at_depth depth d ≡ true) changes all)
