-- One change more, carried out in the tree or in the payload of its owner, in code.
--     payload_at                     what a list has at a number: nothing where it ends before
--     CanStepIn                      the payload is there, and the change can be the next in it
--     StepsIn, StaysIn               the payload with one change more; with none more
--     CountsStepIn                   how a count rises by the nodes that this builds
--     OthersStay                     the other payloads are as they were
--     CanSplice, Splices, SpliceStays, CountsSplice      the same in the payload of this owner, or in the tree
--     AimsAtTop                      if a change replaces the root, it has no owner, and aims at the top
--     PutsRoot                       what a change gives is the new root, if it replaces the root
use Rattle.std.specs.Prelude.{◌≡◌, ◌≢◌, ◌<◌, ℕ, true, List, ◌∷◌, [], length, slice_index_or, Option, Some, None, IsSomeAnd, MatchBool}
use Rattle.green_tree.specs.Path.{has_path}
use Rattle.green_tree.specs.Tree.{SyntaxTree}
use Rattle.green_tree.specs.Green.{Branch, branch_tree}
use Rattle.edit_change.specs.Aim.{replaces}
use Rattle.edit_change.specs.Rewriting.{NumberedAim}
use Rattle.edit_change.specs.Change.{targets}
use Rattle.edit_change.specs.declared.change.Change.{Change}
use Rattle.edit_steps.specs.inner.Stage.{old_tree, StageCanStep, StageTakesStep, StageCountsStep}
use Rattle.edit_steps.specs.inner.Stage as stage
use Rattle.edit_steps.specs.declared.stage.Stage.{Stage}
use Rattle.edit_steps.specs.declared.stages.Stages.{Stages}

abbrev pub payload_at : List (Option Stage) → ℕ → Option Stage
payload_at stages n = slice_index_or stages n None

abbrev pub CanStepIn : List (Option Stage) → ℕ → NumberedAim → Type 0
CanStepIn stages n a = (s : Stage) × (payload_at stages n ≡ Some s) × StageCanStep s a

module _ (before after : List (Option Stage)) (n : ℕ) where
  abbrev Becomes : (Stage → Stage → Type 0) → Type 0
  Becomes R = (s : Stage) → payload_at before n ≡ Some s → (t : Stage) × (payload_at after n ≡ Some t) × (old_tree t ≡ old_tree s) × R s t

  abbrev pub StepsIn : NumberedAim → List SyntaxTree → Type 0
  StepsIn a ts = Becomes (λ s t. StageTakesStep s t a ts)

  abbrev pub StaysIn : Type 0
  StaysIn = Becomes (λ s t. stage.StageStaysAs s t)

  pub record OthersStay : Type 0 where
    pub long : length after ≡ length before
    pub others : (m : ℕ) → m ≢ n → payload_at after m ≡ payload_at before m

abbrev pub CountsStepIn : List (Option Stage) → ℕ → NumberedAim → ℕ → ℕ → Type 0
CountsStepIn stages n a before after = (s : Stage) → payload_at stages n ≡ Some s → StageCountsStep s a before after

-- ---- in the tree, or in the payload of this owner
abbrev pub CanSplice : Stages → Option ℕ → NumberedAim → Type 0
CanSplice s None a = StageCanStep s.tree a
CanSplice s (Some o) a = (o < length s.payloads.items) × CanStepIn s.payloads.items o a

module _ (before after : Stages) where
  abbrev pub Splices : Option ℕ → NumberedAim → List SyntaxTree → Type 0
  Splices None a ts =
      (after.payloads ≡ before.payloads) × (old_tree after.tree ≡ old_tree before.tree) × StageTakesStep before.tree after.tree a ts
  Splices (Some o) a ts =
      (after.tree ≡ before.tree) × OthersStay before.payloads.items after.payloads.items o × StepsIn before.payloads.items after.payloads.items o a ts

  abbrev pub SpliceStays : Option ℕ → Type 0
  SpliceStays None =
      (after.payloads ≡ before.payloads) × (old_tree after.tree ≡ old_tree before.tree) × stage.StageStaysAs before.tree after.tree
  SpliceStays (Some o) =
      (after.tree ≡ before.tree) × OthersStay before.payloads.items after.payloads.items o × StaysIn before.payloads.items after.payloads.items o

  abbrev pub CountsSplice : Option ℕ → NumberedAim → Type 0
  CountsSplice None a = StageCountsStep before.tree a before.builds after.builds
  CountsSplice (Some o) a = CountsStepIn before.payloads.items o a before.builds after.builds

-- ---- a change that replaces the root
abbrev pub AimsAtTop : Change → Option ℕ → NumberedAim → Type 0
AimsAtTop c o a = has_path (targets c) [] ≡ true → (o ≡ None) × (replaces [] a.1 ≡ true)

abbrev pub PutsRoot : Change → List SyntaxTree → Option Branch → Option Branch → Type 0
PutsRoot c ts before after =
    MatchBool (has_path (targets c) []) (IsSomeAnd after (λ node. ts ≡ branch_tree node ∷ [])) (after ≡ before)
