-- The edits that take back what edits do to a text.
--     inverted_from                 Those for pieces of which the text before an offset is done, which is another
--                                   offset of the new text.
--     inverted                      Those for a whole list: in the place of what each piece puts in stands again what
--                                   it takes away.
--     TakeBack                      Pieces fit what others make of a text, and give the text back.
use Rattle.std.specs.Prelude.{◌≡◌, ℕ, ◌+◌, ◌-◌, List, [], ◌∷◌, length, slice_range}
use Rattle.text_edit.specs.TextPiece.{TextPiece, FitText, applied}

abbrev pub inverted_from : ℕ → ℕ → List TextPiece → List ℕ → List TextPiece
inverted_from at gone [] s = []
inverted_from at gone (e ∷ es) s =
    let first = at + (e.first - gone) in
    let stop = first + length e.text in
    record { first = first; stop = stop; text = slice_range s e.first e.stop } ∷ inverted_from stop e.stop es s

abbrev pub inverted : List TextPiece → List ℕ → List TextPiece
inverted es s = inverted_from 0 0 es s

abbrev pub TakeBack : List TextPiece → List ℕ → List TextPiece → Type 0
TakeBack es s r = FitText (applied es s) r × (applied r (applied es s) ≡ s)
