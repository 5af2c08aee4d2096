-- Where a change is carried out, one at a time: in the payload of its owner, or in the old tree.
--     has_stage                     Other changes can be carried out in the payload of this one: it replaces a node by a node and is not
--                                   dropped.
--     tree_of, staged_aim           The tree in which a change is carried out, its owner's payload or the old tree; where it aims there.
use Rattle.std.specs.Prelude.{ℕ, Bool, false, ◌&&◌, not, List, [], map, slice_get, unwrap_or}
use Rattle.std.specs.Option.{option_map_or}
use Rattle.cst_core.specs.Path.{Path, first_item}
use Rattle.cst_core.specs.Tree.{SyntaxTree}
use Rattle.cst_core.specs.Element.{subtree}
use Rattle.edit_change.specs.Aim.{Aim}
use Rattle.edit_change.specs.ChangeAim.{aim}
use Rattle.edit_change.specs.Nesting.{is_keeping, is_dropped, owner}
use Rattle.edit_change.specs.declared.change.Change.{Change}
use Rattle.edit_change.specs.NewTree.{targets_of, payload_of, moved_aim}

abbrev pub has_stage : List Change → ℕ → Bool
has_stage cs n = option_map_or (λ c. is_keeping c && not (is_dropped cs c)) (slice_get cs n) false

abbrev pub tree_of : List Change → SyntaxTree → Change → SyntaxTree
tree_of cs root c = option_map_or (λ o. unwrap_or (first_item (map subtree (payload_of cs o))) root) (owner cs c) root

abbrev pub staged_aim : List Change → (ℕ → Path) → Change → Aim
staged_aim cs places c =
    option_map_or (λ o. moved_aim (unwrap_or (first_item (targets_of cs o)) []) (places o) (aim c)) (owner cs c) (aim c)
