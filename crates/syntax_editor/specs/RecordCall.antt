-- Calls that record a change, each with what it is given.
--     RecordCall                    A call that records a change, with its arguments.
--     recorded, all_recorded        The list of changes after a call; that of a new editor after several calls.
--     refusal                       Why a call is refused, if it is: the first line that fits in the table below.
--
-- | refusal, in this order | inserts | deletion | replacement by one or many | range |
-- |---|---|---|---|---|
-- | `Foreign` | the position is not native | the target is not native | the target is not native | an end is not native |
-- | `BadRange` | | | | the ends are no range |
-- | `DeletesRoot` | | the target is the root | | the root alone is deleted |
-- | `RootReplacement` | | | the root is replaced, and not by one node | the root alone is replaced, and not by one node |
--
-- New elements may come from any tree. Deleting `R`: `DeletesRoot`. Replacing `R` by `_`, or by `()` twice:
-- `RootReplacement`. The range from `R/4` to `R/1`, or from `R/0` to `R/1/0`: `BadRange`. Inserting first in `()`:
-- `Foreign`. Deleting the range from `R` to `R`: `DeletesRoot`.
use Rattle.std.specs.Prelude.{Bool, ◌&&◌, ◌||◌, not, List, [], ◌∷◌, Option}
use Rattle.std.specs.List.{fold}
use Rattle.cst_core.specs.Element.{Element}
use Rattle.cst_core.specs.declared.element.SyntaxElement.{SyntaxElement}
use Rattle.edit_change.specs.declared.position.Position.{Position}
use Rattle.edit_change.specs.declared.change.Change.{Change}
use Rattle.whitespace.specs.Table.{first_fit}
use Rattle.change_list.specs.Recording.{delete, replace, insert, insert_all, replace_with_many, delete_all, replace_all}
use Rattle.edit_plan.specs.Fits.{is_native, is_native_position, is_root, is_range, is_one_node}
use Rattle.syntax_editor.specs.declared.error.RecordError.{RecordError}
use Rattle.syntax_editor.specs.declared.error.RecordError.TheVariants.{Foreign, BadRange, DeletesRoot, RootReplacement}

pub data RecordCall : Type 0 where
  Inserting : (at : Position) (element : SyntaxElement) → RecordCall
  InsertingAll : (at : Position) (elements : List SyntaxElement) → RecordCall
  Deleting : (target : SyntaxElement) → RecordCall
  Replacing : (target : SyntaxElement) (element : SyntaxElement) → RecordCall
  ReplacingWithMany : (target : SyntaxElement) (elements : List SyntaxElement) → RecordCall
  DeletingAll : (first : SyntaxElement) (last : SyntaxElement) → RecordCall
  ReplacingAll : (first : SyntaxElement) (last : SyntaxElement) (elements : List SyntaxElement) → RecordCall

abbrev pub recorded : RecordCall → List Change → List Change
recorded (Inserting at e) cs = insert at e cs
recorded (InsertingAll at es) cs = insert_all at es cs
recorded (Deleting t) cs = delete t cs
recorded (Replacing t e) cs = replace t e cs
recorded (ReplacingWithMany t es) cs = replace_with_many t es cs
recorded (DeletingAll first last) cs = delete_all first last cs
recorded (ReplacingAll first last es) cs = replace_all first last es cs

abbrev pub all_recorded : List RecordCall → List Change
all_recorded calls = fold (λ cs call. recorded call cs) [] calls

abbrev refusals : Element → RecordCall → List (Bool × RecordError)
refusals root (Inserting at e) = (not (is_native_position root at), Foreign) ∷ []
refusals root (InsertingAll at es) = (not (is_native_position root at), Foreign) ∷ []
refusals root (Deleting t) = (not (is_native root t), Foreign) ∷ (is_root t, DeletesRoot) ∷ []
refusals root (Replacing t e) = (not (is_native root t), Foreign) ∷ (is_root t && not (is_one_node (e ∷ [])), RootReplacement) ∷ []
refusals root (ReplacingWithMany t es) = (not (is_native root t), Foreign) ∷ (is_root t && not (is_one_node es), RootReplacement) ∷ []
refusals root (DeletingAll first last) =
    (not (is_native root first) || not (is_native root last), Foreign) ∷ (not (is_range first last), BadRange) ∷ (is_root first, DeletesRoot) ∷ []
refusals root (ReplacingAll first last es) =
    (not (is_native root first) || not (is_native root last), Foreign) ∷ (not (is_range first last), BadRange) ∷ (is_root first && not (is_one_node es), RootReplacement) ∷ []

abbrev pub refusal : Element → RecordCall → Option RecordError
refusal root call = first_fit (refusals root call)
