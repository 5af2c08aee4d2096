-- What is true of a run in code.
--     given_trees_of                what each change of a plan gives, without origins
--     told_done                     a list says of a number that it is done
--     IsRunning                     the stages are those of the changes that are done, for each table of places
--     AgreeOnPlaces                 any two tables of places agree on the owners of changes
--     KeepsShapes                   where numbers tell trees, an owner's target has its shape at its place in the payload
--     run_of                        a run, as contracts see it
--     IsCarriedOut                  all changes of the plan are done
use Rattle.std.specs.Prelude.{◌≡◌, ℕ, Bool, true, false, List, map, slice_get, slice_index_or, Some, IsSomeAnd}
use Rattle.cst_core.specs.Path.{Path}
use Rattle.cst_core.specs.Tree.{SyntaxTree, at, SameShape}
use Rattle.cst_core.specs.Element.{Element, NumbersTell, subtree}
use Rattle.cst_core.specs.declared.element.SyntaxElement.TheVariants.{Node}
use Rattle.edit_change.specs.Nesting.{owner}
use Rattle.edit_change.specs.declared.change.Change.{Change}
use Rattle.edit_change.specs.declared.change.Change.TheVariants.{Replace}
use Rattle.edit_steps.specs.Schedule.{is_complete}
use Rattle.edit_change.specs.NewTree.{plain, given}
use Rattle.edit_steps.specs.declared.stages.Stages.{Stages}
use Rattle.edit_steps.specs.inner.Stages.{IsStages, builds_of, done_in}
use Rattle.edit_change.specs.Places.{ArePlaces, elements_held}
use Rattle.edit_plan.specs.Plan.{Plan, IsPlan, registered_elements}
use Rattle.edit_plan.specs.Run.{Run, is_done}

abbrev pub given_trees_of : Plan → (ℕ → Path) → ℕ → List SyntaxTree
given_trees_of p places c = map plain (given p.changes places c)

abbrev pub told_done : List Bool → ℕ → Bool
told_done done n = slice_index_or done n false

pub record IsRunning (p : Plan) (s : Stages) : Type 0 where
  pub is_plan : IsPlan p
  pub stages : (places : ℕ → Path) → ArePlaces p.mapping p.changes places → IsStages p.changes places (given_trees_of p places) (told_done (done_in s)) (subtree p.root) s

abbrev pub run_of : Plan → Stages → Run
run_of p s = record { plan = p; done = done_in s; builds = builds_of s }

abbrev pub AgreeOnPlaces : Plan → Type 0
AgreeOnPlaces p =
    (a b : ℕ → Path) → ArePlaces p.mapping p.changes a → ArePlaces p.mapping p.changes b → (n o : ℕ) (c : Change) → slice_get p.changes n ≡ Some c → owner p.changes c ≡ Some o → a o ≡ b o

abbrev pub KeepsShapes : Plan → Type 0
KeepsShapes p =
    NumbersTell (elements_held p.root p.changes (registered_elements p.registrations) p.mapping) → (places : ℕ → Path) → ArePlaces p.mapping p.changes places → (n o : ℕ) (c : Change) (t r : Element) → slice_get p.changes n ≡ Some c → owner p.changes c ≡ Some o → slice_get p.changes o ≡ Some (Replace (Node t) (Some (Node r))) → IsSomeAnd (at (subtree r) (places o)) (SameShape (subtree t))

pub record IsCarriedOut (p : Plan) (r : Run) : Type 0 where
  pub plan_is : r.plan ≡ p
  pub complete : is_complete p.changes (is_done r) ≡ true
