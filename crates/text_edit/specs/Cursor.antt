-- Where a part of the new text stands in the text that one edit puts in. Offsets are in bytes.
--     new_start                     Where the text of the piece at an index starts in the new text: where the piece
--                                   starts in the old one, less the bytes that the pieces before it take away, and those
--                                   that they put in.
--     holds                         A range of the new text is in the text of the piece at an index: it starts where
--                                   that text starts, or later, and ends where it ends, or earlier.
--     cursor_in                     The piece at an index, and a range within its text.
--     cursor                        That of the first piece whose text a range of the new text is in; none where there
--                                   is no such piece, as for a range that ends before it starts.
--
-- The edits 1 to 2 `10` and 5 to 5 `é` make `(10, 2é)` of `(1, 2)`. The range 1 to 3 is 0 to 2 of the edit 0, and 7 to 9
-- is none: what starts at 6 has two bytes. The range 1 to 4 is none, since `,` is in no edit's text, and so is the range
-- 4 to 4. Where the texts of two edits touch, a range of no length is at the end of the first. Where a deletion is, it is
-- 0 to 0 of that, if no text before it ends there.
use Rattle.std.specs.Prelude.{ℕ, ◌+◌, ◌-◌, Bool, ◌&&◌, nat_le, List, length, take, find, Option, option_map}
use Rattle.std.specs.List.{sum_by, range_with_len}
use Rattle.text_edit.specs.TextPiece.{TextPiece}
use Rattle.text_edit.specs.OrderRefusal.{piece_at}
use Rattle.text_edit.specs.declared.cursor.Cursor.{Cursor}

abbrev pub new_start : List TextPiece → ℕ → ℕ
new_start es i = (piece_at es i).first - sum_by (λ e. e.stop - e.first) (take i es)
    + sum_by (λ e. length e.text) (take i es)

abbrev pub holds : List TextPiece → ℕ → ℕ → ℕ → Bool
holds es start end i = nat_le start end && nat_le (new_start es i) start
    && nat_le end (new_start es i + length (piece_at es i).text)

abbrev pub cursor_in : List TextPiece → ℕ → ℕ → ℕ → Cursor
cursor_in es start end i = record { edit = i; start = start - new_start es i; end = end - new_start es i }

abbrev pub cursor : List TextPiece → ℕ → ℕ → Option Cursor
cursor es start end = option_map (cursor_in es start end) (find (holds es start end) (range_with_len 0 (length es)))
