-- Elements put where a change aims in the old tree, in the tree as it stands after these changes.
--     current_path                   the path in the new element of what has a path in the old one, where nothing on the way is replaced
--     CanPut                         what it aims at is there, and so many children are
--     put                            the tree with these put there
--     IsPlaceOf                      where they go in an element, in code: among the children of the node at a path, from a slot on
use Rattle.std.specs.Prelude.{◌≡◌, ◌≤◌, ◌+◌, ◌^◌, List, [], ◌∷◌, length, Some}
use Rattle.green_tree.specs.Path.{Path}
use Rattle.green_tree.specs.Tree.{SyntaxTree, trees}
use Rattle.edit_steps.specs.declared.stage.among.Among.{Among}
use Rattle.edit_steps.specs.declared.stage.among.Among.TheVariants.{Slots}
use Rattle.edit_steps.specs.declared.stage.aim_target.AimTarget.{AimTarget}
use Rattle.edit_steps.specs.declared.stage.place.Place.{Place}
use Rattle.edit_steps.specs.declared.stage.visited.VisitedNodes.{VisitedNodes}
use Rattle.edit_steps.specs.inner.Widths.{Held, index_of, count_of, start}
use Rattle.edit_steps.specs.inner.Visited.{number_at}
use Rattle.green_tree.specs.inner.Splices.{spliced, updated_at, CanSplice}

-- by what each node holds, from the top down
abbrev pub current_path : (Path → Held) → Path → Path
current_path held [] = []
current_path held (i ∷ p) = start (held []) (Slots i 1) ∷ current_path (λ q. held (i ∷ q)) p

-- below the node at a path of the old tree, among its children
module _ (t : SyntaxTree) (held : Path → Held) (p : Path) (at : Among) where
  pub record CanPut : Type 0 where
    pub there : CanSplice t (current_path held p) (start (held p) at) (count_of at)
    pub wide : (held p).widths (index_of at) ≤ length (trees there.below) + 1

  abbrev pub put : List SyntaxTree → SyntaxTree
  put ts = updated_at t (current_path held p) (spliced (start (held p) at) (count_of at) ts)

-- ---- in code
pub record IsPlaceOf (held : Path → Held) (target : AimTarget) (v : VisitedNodes) (place : Place) : Type 0 where
  pub path : place.path.items ≡ current_path held target.parent.now
  pub first : place.first ≡ start (held target.parent.now) target.at
  pub node : number_at v target.parent.now ≡ Some place.node
  pub wide : (held target.parent.now).widths (index_of target.at) ≤ 2 ^ 63
