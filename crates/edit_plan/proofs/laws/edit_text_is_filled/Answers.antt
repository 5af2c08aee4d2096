use Rattle.std.specs.Prelude.{◌≡◌, None}
use Rattle.std.proofs.Common.{ap, ◌∙◌}
use Rattle.std.proofs.lemmas.List.Elements.{recursion_from_All}
use Rattle.cst_core.specs.Tree.{text}
use Rattle.edit_change.specs.Nesting.{owner}
use Rattle.edit_change.specs.NewTree.{new_tree}
use Rattle.edit_plan.proofs.Unowned.{text-unowned, text_of_made}
use Rattle.edit_plan.proofs.laws.edit_text_is_filled.Goals as goal

pub returns : goal.returns
returns c plan number edit makes none =
    let places = makes.would.places in
    ap text makes.tree_is
    ∙ text_of_made makes.made (new_tree plan.changes places plan.root) makes.would.is_new
    ∙ text-unowned plan.changes places plan.root (recursion_from_All (λ d. owner plan.changes d ≡ None) plan.changes none)
