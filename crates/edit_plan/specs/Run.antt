-- A plan that is carried out one change at a time, as contracts see it.
--     Run, new_run                  A plan, for each change whether it is done, and how many nodes the steps built; a run in which nothing
--                                   is done.
--     is_done                       The change of this number is done.
--     IsRun                         What holds for every run: its plan is a plan; no dropped change is done; and if a change is done, so
--                                   are all that must come before it (`comes_first`).
--     TellsReady, CanStep           A result says whether a change may be the next one of a run (`is_ready`); the change may be.
--     next_ready                    The least change that may be the next one, if any may.
--     ShowsTree                     A tree is the `stage_tree` of what is done, without origins, whatever the order of the steps was.
--     IsPayloadAt                   A tree is the `stage_payload` of what is done, without origins.
--     ShowsPayload                  A run shows a payload exactly for a change that `has_stage`, and then it is `IsPayloadAt`.
--     way_length                    One more than the length of the path of the node whose child list a change alters, in its owner's
--                                   payload or in the tree; 0 for a replaced root.
--     CountsWay                     A count of built nodes rises by `way_length` where equal numbers mean equal trees. Otherwise it stays
--                                   the same if the change aims at nothing in its owner's payload.
--     CountsStep                    A step raises the count of a run so.
--
-- `R/1` is replaced by `R`, and `x` is inserted first in `R/1`. The only allowed order is 1 0. After step 1 the tree of
-- the run is `R`, and the payload of change 0 has the text `(x1, 2)`. After step 0 the tree has the text `((x1, 2),
-- 2)`.
use Rattle.std.specs.Prelude.{◌≡◌, ◌+◌, ℕ, Bool, true, false, List, [], ◌∷◌, map, length, sum_by, slice_get, slice_index_or, find, Option, Some, option_map, is_some, IfSome, IsSomeAnd}
use Rattle.std.specs.List.{enumerate_from}
use Rattle.std.specs.Borrow.{Bor}
use Rattle.cst_core.specs.Path.{Path}
use Rattle.cst_core.specs.Tree.{SyntaxTree}
use Rattle.cst_core.specs.Green.{Branch, branch_tree}
use Rattle.cst_core.specs.Element.{NumbersTell, subtree}
use Rattle.edit_change.specs.Aim.{parents}
use Rattle.green_tree.specs.Count.{counted}
use Rattle.edit_steps.specs.StepCount.{step_builds}
use Rattle.edit_steps.specs.Schedule.{comes_first, is_ready}
use Rattle.edit_change.specs.Nesting.{is_dropped}
use Rattle.edit_change.specs.declared.change.Change.{Change}
use Rattle.edit_change.specs.NewTree.{plain, stage_tree, stage_payload}
use Rattle.edit_change.specs.StagedChange.{has_stage, staged_aim, tree_of}
use Rattle.edit_change.specs.Places.{ArePlaces, elements_held}
use Rattle.edit_plan.specs.Plan.{Plan, IsPlan, registered_elements}

pub record Run : Type 0 where
  pub plan : Plan
  pub done : List Bool
  pub builds : ℕ

abbrev pub new_run : Plan → Run
new_run p = record { plan = p; done = map (λ c. false) p.changes; builds = 0 }

abbrev pub is_done : Run → ℕ → Bool
is_done r n = slice_index_or r.done n false

-- Of what is done all that must come before it is done too.
pub record IsRun (r : Run) : Type 0 where
  pub planned : IsPlan r.plan
  pub long : length r.done ≡ length r.plan.changes
  pub undropped : (n : ℕ) (c : Change) → slice_get r.plan.changes n ≡ Some c → is_done r n ≡ true → is_dropped r.plan.changes c ≡ false
  pub before : (m n : ℕ) (c d : Change) → slice_get r.plan.changes m ≡ Some c → slice_get r.plan.changes n ≡ Some d → is_dropped r.plan.changes c ≡ false → comes_first r.plan.changes (m, c) (n, d) ≡ true → is_done r n ≡ true → is_done r m ≡ true

-- ---- what can be next
abbrev pub TellsReady : Run → ℕ → Bool → Type 0
TellsReady r n answer = (c : Change) → slice_get r.plan.changes n ≡ Some c → answer ≡ is_ready r.plan.changes (is_done r) (n, c)

abbrev pub CanStep : Run → ℕ → Type 0
CanStep r n = IsSomeAnd (slice_get r.plan.changes n) (λ c. is_ready r.plan.changes (is_done r) (n, c) ≡ true)

abbrev pub next_ready : Run → Option ℕ
next_ready r = option_map (λ c. c.0) (find (is_ready r.plan.changes (is_done r)) (enumerate_from 0 r.plan.changes))

-- ---- the stage
abbrev pub ShowsTree : Run → SyntaxTree → Type 0
ShowsTree r t =
    (places : ℕ → Path) → ArePlaces r.plan.mapping r.plan.changes places → map plain (stage_tree r.plan.changes places (is_done r) r.plan.root) ≡ t ∷ []

abbrev pub IsPayloadAt : Run → ℕ → SyntaxTree → Type 0
IsPayloadAt r n t =
    (places : ℕ → Path) → ArePlaces r.plan.mapping r.plan.changes places → map plain (stage_payload r.plan.changes places (is_done r) n) ≡ t ∷ []

pub record ShowsPayload (r : Run) (n : ℕ) (shown : Option (Bor Branch)) : Type 0 where
  pub is_there : is_some shown ≡ has_stage r.plan.changes n
  pub tree : IfSome shown (λ b. IsPayloadAt r n (branch_tree b.now))

-- ---- the count
abbrev pub way_length : List Change → (ℕ → Path) → Change → ℕ
way_length cs places c = sum_by (λ p. length p + 1) (parents (staged_aim cs places c))

-- Where trees of one number differ, a change may aim at nothing in its owner's payload, and then it builds nothing. Else a step
-- builds the whole way.
pub record CountsWay (r : Run) (builds : ℕ) (places : ℕ → Path) (c : Change) : Type 0 where
  pub live : builds ≡ counted r.builds (step_builds (tree_of r.plan.changes (subtree r.plan.root) c) (staged_aim r.plan.changes places c))
  pub whole : NumbersTell (elements_held r.plan.root r.plan.changes (registered_elements r.plan.registrations) r.plan.mapping) → builds ≡ counted r.builds (way_length r.plan.changes places c)

abbrev pub CountsStep : Run → ℕ → ℕ → Type 0
CountsStep r n builds =
    (places : ℕ → Path) (c : Change) → ArePlaces r.plan.mapping r.plan.changes places → slice_get r.plan.changes n ≡ Some c → CountsWay r builds places c
