-- An element with some changes carried out, one at a time.
--     old_tree, present_tree            the element with nothing done; as it stands now
--     IsStage                       these aims are done, each of which gave this: the new tree is the old one, rewritten by them
--     IsNext                        an aim can be the next to be done, with its number between those of these and those of these
--     StageCanStep                       it is so of some aims that are done
--     StageTakesStep                     whatever was done, that aim is done too, which gave these elements
--     StageStaysAs                       whatever was done, nothing more is
--     StageCountsStep                    how a count of built nodes rises
use Rattle.std.specs.Prelude.{◌≡◌, ℕ, suc, true, false, List, [], ◌∷◌, ◌++◌, length, Some}
use Rattle.green_tree.specs.Path.{Path}
use Rattle.green_tree.specs.Tree.{Forest, Node, SyntaxTree, trees, at}
use Rattle.green_tree.specs.GreenElement.{element_tree}
use Rattle.edit_change.specs.Aim.{Gap, gap_of, replaces, parents}
use Rattle.green_tree.specs.Count.{counted}
use Rattle.edit_change.specs.Rewriting.{NumberedAim, inserts_at, is_replaced, gap_order, rewritten}
use Rattle.edit_change.specs.inner.KindOnly.{kind_only}
use Rattle.edit_steps.specs.StepCount.{step_builds}
use Rattle.edit_steps.specs.declared.stage.Stage.{Stage}
use Rattle.edit_steps.specs.inner.Visited.{held_at, IsVisited}
use Rattle.edit_steps.specs.inner.Counts.{IsCounted}

abbrev pub old_tree : Stage → SyntaxTree
old_tree s = element_tree s.original

abbrev pub present_tree : Stage → SyntaxTree
present_tree s = element_tree s.current

pub record IsStage (given : ℕ → List SyntaxTree) (cs : List NumberedAim) (s : Stage) : Type 0 where
  pub tree : present_tree s ≡ rewritten kind_only given cs [] (old_tree s)
  pub counted : (p : Path) (k : ℕ) (f : Forest ℕ) → at (old_tree s) p ≡ Some (Node k f) → IsCounted given cs p (length (trees f)) (held_at s.visited p)
  pub visited : IsVisited s.visited

-- ---- what can be done next
pub record IsNext (xs : List NumberedAim) (c : NumberedAim) (ys : List NumberedAim) : Type 0 where
  -- nothing is replaced at its node or above, but the top
  pub node_stays : (p q : Path) (i : ℕ) (r : Path) → parents c.1 ≡ p ∷ [] → q ++ i ∷ r ≡ p → is_replaced (xs ++ ys) (q ++ i ∷ []) ≡ false
  -- in its gap it stands first
  pub stands_first : (g : Gap) → gap_of c.1 ≡ Some g → gap_order (inserts_at (xs ++ c ∷ ys) g.node g.index) ≡ c.0 ∷ gap_order (inserts_at (xs ++ ys) g.node g.index)
  -- what it replaces is not replaced
  pub targets_stay : (p : Path) → replaces p c.1 ≡ true → is_replaced (xs ++ ys) p ≡ false
  -- and nothing is put between two of them
  pub none_between : (p : Path) (i : ℕ) → replaces (p ++ i ∷ []) c.1 ≡ true → replaces (p ++ suc i ∷ []) c.1 ≡ true → inserts_at (xs ++ ys) p (suc i) ≡ []

abbrev pub StageCanStep : Stage → NumberedAim → Type 0
StageCanStep s c =
    (given : ℕ → List SyntaxTree) × (xs : List NumberedAim) × (ys : List NumberedAim) × IsStage given (xs ++ ys) s × IsNext xs c ys

-- ---- a step
abbrev pub StageTakesStep : Stage → Stage → NumberedAim → List SyntaxTree → Type 0
StageTakesStep before after c ts =
    (given : ℕ → List SyntaxTree) (xs ys : List NumberedAim) → IsStage given (xs ++ ys) before → IsNext xs c ys → given c.0 ≡ ts → IsStage given (xs ++ c ∷ ys) after

abbrev pub StageStaysAs : Stage → Stage → Type 0
StageStaysAs before after = (given : ℕ → List SyntaxTree) (cs : List NumberedAim) → IsStage given cs before → IsStage given cs after

-- ---- how much it takes
abbrev pub StageCountsStep : Stage → NumberedAim → ℕ → ℕ → Type 0
StageCountsStep s c before after = after ≡ counted before (step_builds (old_tree s) c.1)
