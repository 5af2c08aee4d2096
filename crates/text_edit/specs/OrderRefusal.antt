-- Why edits are not taken as one list.
--     nothing                       No edit: an insert of nothing at the start.
--     piece_at, piece_before        The piece at an index, and the one before it; `nothing` where there is none.
--     IsFirstAt                     The pieces before an index are in order in a text of a length, and the one there
--                                   breaks a rule, which is told of it and the one before it.
--     OrderRefuses                  What an error says of the first piece that breaks a rule: it starts after its end;
--                                   it ends past the length; it starts before the one before it starts; or before
--                                   that one ends. The first of these that holds is told.
use Rattle.std.specs.Prelude.{ℕ, ◌<◌, ◌≤◌, List, [], ◌∷◌, length, take, slice_index_or}
use Rattle.text_edit.specs.TextPiece.{TextPiece, AreApart}
use Rattle.text_edit.specs.declared.order_error.OrderError.{OrderError}
use Rattle.text_edit.specs.declared.order_error.OrderError.TheVariants.{StartAfterEnd, PastEnd, OutOfOrder, Overlapping}

abbrev pub nothing : TextPiece
nothing = record { first = 0; stop = 0; text = [] }

abbrev pub piece_at : List TextPiece → ℕ → TextPiece
piece_at es i = slice_index_or es i nothing

abbrev pub piece_before : List TextPiece → ℕ → TextPiece
piece_before es i = slice_index_or (nothing ∷ es) i nothing

abbrev pub IsFirstAt : ℕ → List TextPiece → (TextPiece → TextPiece → Type 0) → ℕ → Type 0
IsFirstAt len es Breaks i = (i < length es) × AreApart 0 (take i es) len × Breaks (piece_before es i) (piece_at es i)

abbrev pub OrderRefuses : ℕ → List TextPiece → OrderError → Type 0
OrderRefuses len es (StartAfterEnd i) = IsFirstAt len es (λ d e. e.stop < e.first) i
OrderRefuses len es (PastEnd i) = IsFirstAt len es (λ d e. (e.first ≤ e.stop) × (len < e.stop)) i
OrderRefuses len es (OutOfOrder i) =
    IsFirstAt len es (λ d e. (e.first ≤ e.stop) × (e.stop ≤ len) × (e.first < d.first)) i
OrderRefuses len es (Overlapping i) = IsFirstAt len es
    (λ d e. (e.first ≤ e.stop) × (e.stop ≤ len) × (d.first ≤ e.first) × (e.first < d.stop)) i
