-- Pieces that fit a text.
use Rattle.std.proofs.Common.{◌≡◌, ◌<◌, ◌≤◌, ℕ, List, [], ◌∷◌, length, take, sym, subst}
use Rattle.std.proofs.lemmas.List.Elements.{All-head, All-tail}
use Rattle.text_edit.specs.TextPiece.{TextPiece, AreApart, FitsText, FitText}
use Rattle.text_edit.specs.OrderRefusal.{piece_at}
use Rattle.text_edit.specs.ApplyRefusal.{IsFirstUnfit, ApplyRefuses}
use Rattle.text_edit.specs.inner.Following.{MissesAt}
use Rattle.text_edit.specs.declared.apply_error.ApplyError.{ApplyError}
use Rattle.text_edit.specs.declared.apply_error.ApplyError.TheVariants.{PastEnd, InsideCharacter, TooLong, Memory}

pub refuses-unfit : (s : List ℕ) (es : List TextPiece) (i : ℕ) (e : TextPiece) → i < length es → FitText s (take i es) → piece_at es i ≡ e → (x : ApplyError) → MissesAt s i e x → ApplyRefuses s es x
refuses-unfit s es i e inside fit at (PastEnd n) m =
    (let P : ℕ → Type 0 = λ k. IsFirstUnfit s es (λ e. length s < e.stop) k in subst P (sym m.0) (inside, fit, rw at m.1))
refuses-unfit s es i e inside fit at (InsideCharacter n) m =
    (let P : ℕ → Type 0 = λ k. IsFirstUnfit s es (λ e. (e.stop ≤ length s) × ¬ (FitsText s e)) k in subst P (sym m.0) (inside, fit, rw at (m.1, m.2)))
refuses-unfit s es i e inside fit at TooLong m = absurd m
refuses-unfit s es i e inside fit at Memory m = absurd m

-- pieces that fit a text end within it
pub AreApart-within : (s : List ℕ) (from to : ℕ) (es : List TextPiece) → from ≤ length s → AreApart from es to → FitText s es → AreApart from es (length s)
AreApart-within s from to [] inside apart fit = inside
AreApart-within s from to (e ∷ es) inside apart fit =
    let own : FitsText s e = All-head (FitsText s) e es fit in
    (apart.0, apart.1, AreApart-within s e.stop to es own.1.0 apart.2 (All-tail (FitsText s) e es fit))
