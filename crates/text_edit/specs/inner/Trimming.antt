-- An edit without what it leaves as it was.
--     IsCutAtStart, IsCutAtEnd      Two texts without what both begin (end) with.
--     Narrows                       Some pieces do what one does, within it.
--     PutsTrimmed                   A list gets these, which are trimmed.
use Rattle.std.specs.Prelude.{◌≡◌, ℕ, List, ◌∷◌, ◌++◌, All, drop}
use Rattle.text_edit.specs.TextPiece.{TextPiece, AreApart, FitText, applied_from}
use Rattle.text_edit.specs.Trimmed.{BeginApart, EndApart, IsTrimmed}

abbrev pub IsCutAtStart : List ℕ → List ℕ → List ℕ → List ℕ → Type 0
IsCutAtStart old new old_left new_left =
    (cut : List ℕ) × (old ≡ cut ++ old_left) × (new ≡ cut ++ new_left) × BeginApart old_left new_left

abbrev pub IsCutAtEnd : List ℕ → List ℕ → List ℕ → List ℕ → Type 0
IsCutAtEnd old new old_left new_left =
    (cut : List ℕ) × (old ≡ old_left ++ cut) × (new ≡ new_left ++ cut) × EndApart old_left new_left

pub record Narrows (s : List ℕ) (e : TextPiece) (ds : List TextPiece) : Type 0 where
  pub apart : (gone to : ℕ) (es : List TextPiece) → AreApart gone (e ∷ es) to → AreApart gone (ds ++ es) to
  pub same : (gone to : ℕ) (es : List TextPiece) → AreApart gone (e ∷ es) to
      → applied_from gone (ds ++ es) (drop gone s) ≡ applied_from gone (e ∷ es) (drop gone s)
  pub fit : FitText s ds
  pub trimmed : All (IsTrimmed s) ds

abbrev pub PutsTrimmed : List ℕ → TextPiece → List TextPiece → List TextPiece → Type 0
PutsTrimmed s e old new = (ds : List TextPiece) × Narrows s e ds × (new ≡ old ++ ds)
