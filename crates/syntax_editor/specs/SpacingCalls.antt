-- The calls that insert elements with the whitespace round them, where the next tree number is this one.
--     spaced_insert                 The `InsertAll` that the call records.
--     spacing_refusal, SpacingRefuses  Why the call is refused, if it is: `Foreign` if the position is not native, else as `space_refusal`
--                                   says; the same as a fact. `Memory` is returned only if the position is native.
--
-- The literal `3` after `R/2`: `(1, 3 2)`. The literal `3` first in `R`: `3 (1, 2)`. A statement after the `{` of a
-- statement list at level 0: on a new line, after four spaces. An import after the `{` of the item list `{}`: `{`,
-- newline, four spaces, `use }`. An empty list after `R/2`: an empty `InsertAll`, and `(1, 2)`.
use Rattle.std.specs.Prelude.{◌≡◌, ℕ, true, cond, List, Option, Some, option_map}
use Rattle.cst_core.specs.Element.{Element}
use Rattle.cst_core.specs.declared.element.SyntaxElement.{SyntaxElement}
use Rattle.edit_change.specs.declared.position.Position.{Position}
use Rattle.edit_plan.specs.Fits.{is_native_position}
use Rattle.whitespace.specs.Spacing.{spaced, space_refusal}
use Rattle.syntax_editor.specs.declared.error.RecordError.{RecordError}
use Rattle.syntax_editor.specs.declared.error.RecordError.TheVariants.{Foreign, BadRange, DeletesRoot, RootReplacement, Memory}
use Rattle.syntax_editor.specs.Editor.{Editor}
use Rattle.syntax_editor.specs.RecordCall.{RecordCall, InsertingAll}
use Rattle.syntax_editor.specs.RecordRefusal.{of_space}

abbrev pub spaced_insert : ℕ → Position → List SyntaxElement → RecordCall
spaced_insert number at es = InsertingAll at (spaced number at es)

abbrev pub spacing_refusal : Element → ℕ → Position → List SyntaxElement → Option RecordError
spacing_refusal root number at es = cond (is_native_position root at) (option_map of_space (space_refusal number at es)) (Some Foreign)

abbrev pub SpacingRefuses : Editor → ℕ → Position → List SyntaxElement → RecordError → Type 0
SpacingRefuses e number at es Memory = is_native_position e.root at ≡ true
SpacingRefuses e number at es BadRange = ⊥
SpacingRefuses e number at es DeletesRoot = ⊥
SpacingRefuses e number at es RootReplacement = ⊥
SpacingRefuses e number at es reason = spacing_refusal e.root number at es ≡ Some reason
