use Rattle.std.specs.Prelude.{[], ◌∷◌, None, refl}
use Rattle.std.proofs.Common.{ap}
use Rattle.cst_core.specs.Element.{address, subtree}
use Rattle.edit_change.specs.NewTree.{given, is_free, new_tree}
use Rattle.edit_change.proofs.RewrittenAlike.{plain-untouched, untouched_by_none}
use Rattle.edit_plan.proofs.UnchangedTree.{all_changed-none}
use Rattle.edit_plan.proofs.laws.no_change_makes_no_difference.Goals as goal

pub returns-clause-tree : goal.returns-clause-tree
returns-clause-tree c places root =
    ap (λ t. t ∷ []) (plain-untouched (address root) None (given [] places) [] [] (untouched_by_none []) (subtree root))

pub returns-clause-changed : goal.returns-clause-changed
returns-clause-changed c places root = all_changed-none (is_free []) (λ _. refl) (new_tree [] places root)
