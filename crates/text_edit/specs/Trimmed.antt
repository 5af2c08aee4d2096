-- Edits that leave nothing as it was.
--     BeginApart, EndApart          A text is empty, or begins (ends) with a character with which another one does not
--                                   begin (end).
--     IsTrimmed                     So do what a piece takes away and what it puts in, and it does something.
use Rattle.std.specs.Prelude.{◌≡◌, ◌≢◌, ◌⊎◌, ℕ, List, [], ◌++◌, encode_utf8, slice_range}
use Rattle.text_edit.specs.TextPiece.{TextPiece}

abbrev pub BeginApart : List ℕ → List ℕ → Type 0
BeginApart old new = (old ≡ []) ⊎ ((c : ℕ) × (rest : List ℕ) × (old ≡ encode_utf8 c ++ rest)
    × ((others : List ℕ) → new ≢ encode_utf8 c ++ others))

abbrev pub EndApart : List ℕ → List ℕ → Type 0
EndApart old new = (old ≡ []) ⊎ ((c : ℕ) × (rest : List ℕ) × (old ≡ rest ++ encode_utf8 c)
    × ((others : List ℕ) → new ≢ others ++ encode_utf8 c))

pub record IsTrimmed (s : List ℕ) (e : TextPiece) : Type 0 where
  pub begins : BeginApart (slice_range s e.first e.stop) e.text
  pub ends : EndApart (slice_range s e.first e.stop) e.text
  pub alters : slice_range s e.first e.stop ≡ [] → e.text ≢ []
