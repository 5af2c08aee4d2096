-- The text edits of a plan.
--     AreTextEdits                  Edits are `text_pieces` of a plan.
--
-- In `R` with the text `(1, 2)`: an insert of `()` before `R/1`, the deletion of `R/3` and the replacement of `R/4` by
-- `3` are the edits 1 to 1 `()`, 3 to 4 with nothing, and 4 to 5 `3`.
use Rattle.std.specs.Prelude.{◌≡◌, ℕ, List}
use Rattle.cst_core.specs.Path.{Path}
use Rattle.edit_change.specs.Places.{ArePlaces}
use Rattle.text_edit.specs.TextPiece.{pieces}
use Rattle.text_edit.specs.declared.text_edit.TextEdit.{TextEdit}
use Rattle.one_pass.specs.TextEdits.{text_pieces}
use Rattle.edit_plan.specs.Plan.{Plan}

abbrev pub AreTextEdits : Plan → List TextEdit → Type 0
AreTextEdits p edits = (places : ℕ → Path) → ArePlaces p.mapping p.changes places → pieces edits ≡ text_pieces p.root p.changes places
