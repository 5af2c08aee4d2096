-- The payloads of changes, as code keeps them.
--     keeps_payload                  a change with this fate has a payload that other changes may be carried out in
--     IsBegun, BeginsPayload, BeginPayloads   nothing is done in it; of all changes, by their numbers
--     payload_trees                  what a change gives, by its payload as it stands
use Rattle.edit_change.specs.inner.OneNode.{IsNodeTree}
use Rattle.std.specs.Prelude.{◌≡◌, ℕ, Bool, true, false, ◌&&◌, not, List, [], ◌∷◌, map, length, slice_get, slice_index_or, Option, Some, None}
use Rattle.green_tree.specs.Tree.{SyntaxTree}
use Rattle.cst_core.specs.Element.{subtree}
use Rattle.edit_change.specs.Change.{payload}
use Rattle.edit_change.specs.Nesting.{is_keeping}
use Rattle.edit_change.specs.inner.Fate.{fate, is_dropped_in}
use Rattle.edit_change.specs.declared.change.Change.{Change}
use Rattle.edit_change.specs.declared.fate.Fate.{Fate}
use Rattle.edit_steps.specs.inner.Stage.{old_tree, present_tree, IsStage}
use Rattle.edit_steps.specs.declared.stage.Stage.{Stage}

abbrev pub keeps_payload : Change → Fate → Bool
keeps_payload c f = is_keeping c && not (is_dropped_in f)

pub record IsBegun (c : Change) (f : Fate) (s : Stage) : Type 0 where
  pub keeps : keeps_payload c f ≡ true
  pub brought : map subtree (payload c) ≡ old_tree s ∷ []
  pub node : IsNodeTree (old_tree s)
  pub stage : (given : ℕ → List SyntaxTree) → IsStage given [] s

abbrev pub BeginsPayload : Change → Fate → Option Stage → Type 0
BeginsPayload c f None = keeps_payload c f ≡ false
BeginsPayload c f (Some s) = IsBegun c f s

pub record BeginPayloads (cs : List Change) (stages : List (Option Stage)) : Type 0 where
  pub long : length stages ≡ length cs
  pub each : (n : ℕ) (c : Change) → slice_get cs n ≡ Some c → BeginsPayload c (fate cs c) (slice_index_or stages n None)

abbrev pub payload_trees : Change → Option Stage → List SyntaxTree
payload_trees c None = map subtree (payload c)
payload_trees c (Some s) = present_tree s ∷ []
