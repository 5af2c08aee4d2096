-- Why one edit of a list is refused.
--     FollowRefuses                 What is wrong with a piece at an index that follows one with a start and an end.
--     MissesAt                      How a piece at an index misses a text.
use Rattle.std.specs.Prelude.{◌≡◌, ℕ, ◌<◌, ◌≤◌, List, length}
use Rattle.text_edit.specs.TextPiece.{TextPiece, FitsText}
use Rattle.text_edit.specs.declared.order_error.OrderError.{OrderError}
use Rattle.text_edit.specs.declared.order_error.OrderError.TheVariants.{StartAfterEnd, PastEnd, OutOfOrder, Overlapping}
use Rattle.text_edit.specs.declared.apply_error.ApplyError.{ApplyError}
use Rattle.text_edit.specs.declared.apply_error.ApplyError.TheVariants as apply

abbrev pub FollowRefuses : ℕ → ℕ → ℕ → ℕ → TextPiece → OrderError → Type 0
FollowRefuses len start end i e (StartAfterEnd n) = (n ≡ i) × (e.stop < e.first)
FollowRefuses len start end i e (PastEnd n) = (n ≡ i) × (e.first ≤ e.stop) × (len < e.stop)
FollowRefuses len start end i e (OutOfOrder n) = (n ≡ i) × (e.first ≤ e.stop) × (e.stop ≤ len) × (e.first < start)
FollowRefuses len start end i e (Overlapping n) =
    (n ≡ i) × (e.first ≤ e.stop) × (e.stop ≤ len) × (start ≤ e.first) × (e.first < end)

abbrev pub MissesAt : List ℕ → ℕ → TextPiece → ApplyError → Type 0
MissesAt s i e (apply.PastEnd n) = (n ≡ i) × (length s < e.stop)
MissesAt s i e (apply.InsideCharacter n) = (n ≡ i) × (e.stop ≤ length s) × ¬ (FitsText s e)
MissesAt s i e apply.TooLong = ⊥
MissesAt s i e apply.Memory = ⊥
