-- One list of edits that does what two do, one after the other.
--     AreComposed                   Pieces do to each text what two lists do, of which the first fits the text, and the
--                                   second what the first makes of it. They fit it too.
--     FitNone                       Pieces fit nothing that the first list makes of a text of less than 2 ^ 64 bytes.
--     ComposeRefuses                What an error says: the edits of the second list up to this one fit nothing that
--                                   the first makes.
use Rattle.std.specs.Prelude.{◌≡◌, ℕ, ◌+◌, ◌<◌, ◌^◌, List, length, take, IsUtf8}
use Rattle.text_edit.specs.TextPiece.{TextPiece, FitText, applied}
use Rattle.text_edit.specs.declared.compose_error.ComposeError.{ComposeError}
use Rattle.text_edit.specs.declared.compose_error.ComposeError.TheVariants.{InsideCharacter, TooLong, Memory}

abbrev pub AreComposed : List TextPiece → List TextPiece → List TextPiece → Type 0
AreComposed first next es = (s : List ℕ) → IsUtf8 s → FitText s first → FitText (applied first s) next
    → FitText s es × (applied es s ≡ applied next (applied first s))

abbrev pub FitNone : List TextPiece → List TextPiece → Type 0
FitNone first es = (s : List ℕ) → IsUtf8 s → length s < 2 ^ 64 → FitText s first → ¬ (FitText (applied first s) es)

abbrev pub ComposeRefuses : List TextPiece → List TextPiece → ComposeError → Type 0
ComposeRefuses first next (InsideCharacter i) = (i < length next) × FitNone first (take (i + 1) next)
ComposeRefuses first next (TooLong i) = (i < length next) × FitNone first (take (i + 1) next)
ComposeRefuses first next Memory = Unit {0}
