-- Why edits are not applied to a text.
--     IsFirstUnfit                  The pieces before an index fit a text, and the one there does not, in this way.
--     ApplyRefuses                  What an error says: the first piece that does not fit ends past the end of the
--                                   text; or it starts or ends within a character; or the new text is too long.
use Rattle.std.specs.Prelude.{ℕ, ◌<◌, ◌≤◌, ◌^◌, List, length, take}
use Rattle.text_edit.specs.TextPiece.{TextPiece, FitsText, FitText, applied}
use Rattle.text_edit.specs.OrderRefusal.{piece_at}
use Rattle.text_edit.specs.declared.apply_error.ApplyError.{ApplyError}
use Rattle.text_edit.specs.declared.apply_error.ApplyError.TheVariants.{PastEnd, InsideCharacter, TooLong, Memory}

abbrev pub IsFirstUnfit : List ℕ → List TextPiece → (TextPiece → Type 0) → ℕ → Type 0
IsFirstUnfit s es Misses i = (i < length es) × FitText s (take i es) × Misses (piece_at es i)

abbrev pub ApplyRefuses : List ℕ → List TextPiece → ApplyError → Type 0
ApplyRefuses s es (PastEnd i) = IsFirstUnfit s es (λ e. length s < e.stop) i
ApplyRefuses s es (InsideCharacter i) = IsFirstUnfit s es (λ e. (e.stop ≤ length s) × ¬ (FitsText s e)) i
ApplyRefuses s es TooLong = 2 ^ 64 ≤ length (applied es s)
ApplyRefuses s es Memory = Unit {0}
