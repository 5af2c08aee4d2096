-- Edits that touch.
--     joined                        A piece that goes on up to an end, with more text.
--     EndsAt                        There is a last piece, and it ends at an offset.
use Rattle.std.specs.Prelude.{◌≡◌, ℕ, ◌<◌, ◌-◌, List, ◌++◌, length}
use Rattle.text_edit.specs.TextPiece.{TextPiece}
use Rattle.text_edit.specs.OrderRefusal.{piece_at}

abbrev pub joined : TextPiece → ℕ → List ℕ → TextPiece
joined e end more = record { first = e.first; stop = end; text = e.text ++ more }

abbrev pub EndsAt : List TextPiece → ℕ → Type 0
EndsAt es n = (0 < length es) × ((piece_at es (length es - 1)).stop ≡ n)
