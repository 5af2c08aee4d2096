-- Where an element stands in a text and in the text of one edit.
--     element_cursor                The range of an element's text, in bytes from the start of its tree's text, and where the text of one
--                                   piece holds it, if there is such a piece.
--
-- In `R` the insert of `x` before `R/1` and the replacement of `R/4` by the node `(x)` make `(x1, (x))`. The text edits
-- are 1 to 1 `x` and 4 to 5 `(x)`. The new element at `1` is from 1 to 2, which is 0 to 1 of the edit 0. The one at `5`
-- is from 5 to 8, which is 0 to 3 of the edit 1, and the token `x` in it is 1 to 2 of that. What was `R/1` is in no edit.
use Rattle.std.specs.Prelude.{List}
use Rattle.cst_core.specs.Order.{start}
use Rattle.cst_core.specs.AtOffset.{end_of}
use Rattle.cst_core.specs.SyntaxElement.{element_of}
use Rattle.cst_core.specs.declared.element.SyntaxElement.{SyntaxElement}
use Rattle.text_edit.specs.TextPiece.{TextPiece}
use Rattle.text_edit.specs.Cursor.{cursor}
use Rattle.edit_plan.specs.declared.cursor.ElementCursor.{ElementCursor}

abbrev pub element_cursor : List TextPiece → SyntaxElement → ElementCursor
element_cursor es x = let e = element_of x in let first = start e.root e.path in
    record { start = first; end = end_of e; in_edit = cursor es first (end_of e) }
