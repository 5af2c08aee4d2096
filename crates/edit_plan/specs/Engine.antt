-- What an engine makes of a plan.
-- An engine that you supply must keep the law of the trait `EditEngine`: its result meets `HasRewritten` and has a text
-- below the limit, and its refusal meets `EngineRefuses`. `E.runs` is what else a run of an engine `E` promises; for
-- `OnePassEngine` that is `CountsRun`.
--
--     IsRewritten                   A tree is that of `WouldMake` without origins, the changed paths are those of `changed`, every
--                                   annotated path leads to an element, and its annotation `is_registered`. Only the annotated paths need
--                                   equal numbers to mean equal trees: then they are `annotated`.
--     annotated_path, HasRewritten  The number of an annotation and a path, in code; `IsRewritten` of values in code.
--     EngineRefuses                 Why an engine does not carry a plan out: `MakesTooLong`.
--     RanBefore                     What is known of the one run of an engine before a refused edit: it had no answer for `TooLong`, and an
--                                   answer for `NoTreeNumber`.
--     CountsTouched, CountsRun      One pass raises a count of built nodes by at most `touched_by`, and by exactly that where equal numbers
--                                   mean equal trees; the same of a run, where a refused run leaves the count.
use Rattle.std.specs.Prelude.{◌≡◌, ℕ, Bool, true, false, List, map, All, IsSome, MatchBool, Vec}
use Rattle.std.specs.Global.{Global}
use Rattle.cst_core.specs.Path.{Path}
use Rattle.cst_core.specs.Tree.{SyntaxTree, at}
use Rattle.cst_core.specs.Green.{branch_tree}
use Rattle.cst_core.specs.Element.{NumbersTell}
use Rattle.edit_change.specs.Topmost.{paths_of}
use Rattle.edit_change.specs.NewTree.{OriginTree, plain, is_free}
use Rattle.edit_change.specs.Results.{changed, annotated}
use Rattle.edit_change.specs.Places.{ArePlaces, elements_held}
use Rattle.edit_change.specs.TouchedNodes.{touched_by, Raises}
use Rattle.edit_plan.specs.Plan.{Plan, WouldMake, MakesTooLong, registered_elements}
use Rattle.edit_plan.specs.declared.rewritten.Rewritten.{Rewritten}
use Rattle.edit_plan.specs.declared.engine_error.EngineError.{EngineError}
use Rattle.edit_plan.specs.declared.engine_error.EngineError.TheVariants.{TooLong, Memory}
use Rattle.edit_plan.specs.declared.edit_error.EditError.{EditError}
use Rattle.edit_plan.specs.declared.edit_error.EditError.TheVariants as edit

-- The annotated paths are told where equal numbers have equal trees. In any case they lead to elements of the tree.
pub record IsRewritten (p : Plan) (tree : SyntaxTree) (changed_paths : List Path) (annotated_paths : List (ℕ × Path)) : Type 0 where
  pub made : OriginTree
  pub would : WouldMake p made
  pub tree_is : tree ≡ plain made
  pub changed_is : changed_paths ≡ changed (is_free p.changes) made
  pub leads : All (λ n. IsSome (at tree n.1)) annotated_paths
  pub annotated_is : NumbersTell (elements_held p.root p.changes (registered_elements p.registrations) p.mapping) → annotated_paths ≡ annotated p.mapping (registered_elements p.registrations) made

abbrev pub annotated_path : ℕ × Vec ℕ Global → ℕ × Path
annotated_path n = (n.0, n.1.items)

abbrev pub HasRewritten : Plan → Rewritten → Type 0
HasRewritten p r = IsRewritten p (branch_tree r.green) (paths_of r.changed.items) (map annotated_path r.annotated.items)

abbrev pub EngineRefuses : Plan → EngineError → Type 0
EngineRefuses p TooLong = MakesTooLong p
EngineRefuses p Memory = Unit {0}

-- `ran` says what the run did to the engine, if this is whether it had an answer. What comes of the tree comes of a run without one, and
-- a missing tree number is seen after a run with one. Memory may run out in the run or after it.
abbrev pub RanBefore : (Bool → Type 0) → EditError → Type 0
RanBefore ran edit.TooLong = ran false
RanBefore ran edit.NoTreeNumber = ran true
RanBefore ran edit.Memory = (answered : Bool) × ran answered
RanBefore ran _ = ⊥

-- The count is exact where equal numbers have equal trees. Else a change may aim at nothing in its owner's payload, and less is built.
pub record CountsTouched (p : Plan) (before after : ℕ) : Type 0 where
  pub places : ℕ → Path
  pub are_places : ArePlaces p.mapping p.changes places
  pub raises : Raises (NumbersTell (elements_held p.root p.changes (registered_elements p.registrations) p.mapping)) (touched_by p.changes places p.root) before after

-- a refused run leaves the count as it was
abbrev pub CountsRun : Plan → Bool → ℕ → ℕ → Type 0
CountsRun p answered before after = MatchBool answered (CountsTouched p before after) (after ≡ before)
