-- What a list of edits is, and what it does to a text. Offsets are in bytes of the old text.
--     TextPiece, as_piece           A text that stands in the place of what is from `first` up to `stop` in the old
--                                   text; a `TextEdit` of code as one.
--     pieces                        Edits of code as a list of these.
--     AreApart                      Pieces are in order from an offset on up to another one, and none starts before the
--                                   one before it ends. So inserts at one offset are in order, in whichever order they
--                                   stand.
--     FitsText, FitText             A piece starts and ends where a character of a text starts, or at the end of the
--                                   text; all pieces do.
--     applied_from, applied         The text that pieces make of an old text, of which the first `gone` bytes are gone;
--                                   of a whole one.
use Rattle.std.specs.Prelude.{ℕ, ◌-◌, ◌≤◌, List, [], ◌∷◌, ◌++◌, map, take, drop, All, string_bytes, IsCharBoundary}
use Rattle.text_edit.specs.declared.text_edit.TextEdit.{TextEdit}

pub record TextPiece : Type 0 where
  pub first : ℕ
  pub stop : ℕ
  pub text : List ℕ

abbrev pub as_piece : TextEdit → TextPiece
as_piece e = record { first = e.start; stop = e.end; text = string_bytes e.text }

abbrev pub pieces : List TextEdit → List TextPiece
pieces es = map as_piece es

abbrev pub AreApart : ℕ → List TextPiece → ℕ → Type 0
AreApart from [] to = from ≤ to
AreApart from (e ∷ es) to = (from ≤ e.first) × (e.first ≤ e.stop) × AreApart e.stop es to

abbrev pub FitsText : List ℕ → TextPiece → Type 0
FitsText s e = IsCharBoundary s e.first × IsCharBoundary s e.stop

abbrev pub FitText : List ℕ → List TextPiece → Type 0
FitText s es = All (FitsText s) es

abbrev pub applied_from : ℕ → List TextPiece → List ℕ → List ℕ
applied_from gone [] s = s
applied_from gone (e ∷ es) s = take (e.first - gone) s ++ e.text ++ applied_from e.stop es (drop (e.stop - gone) s)

abbrev pub applied : List TextPiece → List ℕ → List ℕ
applied es s = applied_from 0 es s
