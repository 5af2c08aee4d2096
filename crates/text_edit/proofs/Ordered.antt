-- Pieces in order and apart.
use Rattle.std.proofs.Common.{◌≡◌, ◌+◌, ◌<◌, ◌≤◌, ℕ, zero, suc, List, [], ◌∷◌, ◌++◌, length, take, get_or, ap, sym, subst, arith, add-one}
use Rattle.text_edit.specs.TextPiece.{TextPiece, AreApart}
use Rattle.text_edit.specs.OrderRefusal.{nothing, piece_at, piece_before, IsFirstAt, OrderRefuses}
use Rattle.text_edit.specs.inner.Following.{FollowRefuses}
use Rattle.text_edit.specs.declared.order_error.OrderError.{OrderError}
use Rattle.text_edit.specs.declared.order_error.OrderError.TheVariants.{StartAfterEnd, PastEnd, OutOfOrder, Overlapping}

pub AreApart-push : (from : ℕ) (es : List TextPiece) (to : ℕ) (e : TextPiece) → AreApart from es to → to ≤ e.first → e.first ≤ e.stop → AreApart from (es ++ e ∷ []) e.stop
AreApart-push from [] to e apart after own = (omega arith, own, omega arith)
AreApart-push from (d ∷ es) to e apart after own = (apart.0, apart.1, AreApart-push d.stop es to e apart.2 after own)

pub AreApart-further : (from : ℕ) (es : List TextPiece) (to further : ℕ) → AreApart from es to → to ≤ further → AreApart from es further
AreApart-further from [] to further apart more = omega arith
AreApart-further from (d ∷ es) to further apart more = (apart.0, apart.1, AreApart-further d.stop es to further apart.2 more)

pub refuses-at : (len : ℕ) (es : List TextPiece) (i : ℕ) (d e : TextPiece) → i < length es → AreApart 0 (take i es) len → piece_before es i ≡ d → piece_at es i ≡ e → (x : OrderError) → FollowRefuses len d.first d.stop i e x → OrderRefuses len es x
refuses-at len es i d e inside apart before at (StartAfterEnd n) f =
    (let P : ℕ → Type 0 = λ k. IsFirstAt len es (λ d e. e.stop < e.first) k in subst P (sym f.0) (inside, apart, rw at f.1))
refuses-at len es i d e inside apart before at (PastEnd n) f =
    (let P : ℕ → Type 0 = λ k. IsFirstAt len es (λ d e. (e.first ≤ e.stop) × (len < e.stop)) k in subst P (sym f.0) (inside, apart, rw at (f.1, f.2)))
refuses-at len es i d e inside apart before at (OutOfOrder n) f =
    (let P : ℕ → Type 0 = λ k. IsFirstAt len es (λ d e. (e.first ≤ e.stop) × (e.stop ≤ len) × (e.first < d.first)) k in subst P (sym f.0) (inside, apart, rw (at, before) (f.1, f.2, f.3)))
refuses-at len es i d e inside apart before at (Overlapping n) f =
    (let P : ℕ → Type 0 = λ k. IsFirstAt len es (λ d e. (e.first ≤ e.stop) × (e.stop ≤ len) × (d.first ≤ e.first) × (e.first < d.stop)) k in subst P (sym f.0) (inside, apart, rw (at, before) (f.1, f.2, f.3, f.4)))

pub piece_before-next : (es : List TextPiece) (i : ℕ) → piece_before es (i + 1) ≡ piece_at es i
piece_before-next es i = ap (λ n. get_or (nothing ∷ es) n nothing) (add-one i)

pub AreApart-le : (from : ℕ) (es : List TextPiece) (to : ℕ) → AreApart from es to → from ≤ to
AreApart-le from [] to apart = apart
AreApart-le from (e ∷ es) to apart = let behind : e.stop ≤ to = AreApart-le e.stop es to apart.2 in omega arith

-- up to the start of the last piece
pub AreApart-before_last : (from : ℕ) (es : List TextPiece) (e : TextPiece) (to : ℕ) → AreApart from (es ++ e ∷ []) to → AreApart from es e.first × (e.first ≤ e.stop) × (e.stop ≤ to)
AreApart-before_last from [] e to apart = (apart.0, apart.1, apart.2)
AreApart-before_last from (d ∷ es) e to apart = let rest = AreApart-before_last d.stop es e to apart.2 in ((apart.0, apart.1, rest.0), rest.1, rest.2)

-- ---- what a refusal says
abbrev pub IsAfter : ℕ → TextPiece → TextPiece → Type 0
IsAfter len d e = (d.first ≤ e.first) × (d.stop ≤ e.first) × (e.first ≤ e.stop) × (e.stop ≤ len)

-- each piece of those that are apart, after one that ends where they begin
pub is-after : (d : TextPiece) (es : List TextPiece) (len i : ℕ) → d.first ≤ d.stop → AreApart d.stop es len → i < length es → IsAfter len (get_or (d ∷ es) i nothing) (get_or es i nothing)
is-after d [] len i own apart inside = absurd (omega (arith, inside))
is-after d (e ∷ es) len zero own apart inside = (omega (arith, own, apart.0), apart.0, apart.1, AreApart-le e.stop es len apart.2)
is-after d (e ∷ es) len (suc i) own apart inside = is-after e es len i apart.1 apart.2 (omega (arith, inside))

broken : (len : ℕ) (es : List TextPiece) (Breaks : TextPiece → TextPiece → Type 0) (i : ℕ) → ((d e : TextPiece) → IsAfter len d e → Breaks d e → ⊥) → IsFirstAt len es Breaks i → AreApart 0 es len → ⊥
broken len es Breaks i never first apart =
    never (piece_before es i) (piece_at es i) (is-after nothing es len i (omega arith) apart first.0) first.2

pub refuses-broken : (len : ℕ) (es : List TextPiece) (x : OrderError) → OrderRefuses len es x → AreApart 0 es len → ⊥
refuses-broken len es (StartAfterEnd i) = broken len es (λ d e. e.stop < e.first) i (λ d e after breaks. omega (arith, after.2, breaks))
refuses-broken len es (PastEnd i) =
    broken len es (λ d e. (e.first ≤ e.stop) × (len < e.stop)) i (λ d e after breaks. omega (arith, after.3, breaks.1))
refuses-broken len es (OutOfOrder i) =
    broken len es (λ d e. (e.first ≤ e.stop) × (e.stop ≤ len) × (e.first < d.first)) i (λ d e after breaks. omega (arith, after.0, breaks.2))
refuses-broken len es (Overlapping i) = broken len es
    (λ d e. (e.first ≤ e.stop) × (e.stop ≤ len) × (d.first ≤ e.first) × (e.first < d.stop)) i (λ d e after breaks. omega (arith, after.1, breaks.3))
