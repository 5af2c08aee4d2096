-- A place in the composition of two lists: what follows it in the text that the first makes, and what is composed.
--     Place, place_of               What is left of the text of the edit that the place is in, the offset in the old
--                                   text, the edits of the first list that are to come, and what is composed so far.
--     following                     What follows the place in the text that the first list makes of an old one.
--     made                          What is composed, applied to the old text up to the place.
--     IsPlace                       The edits to come and the composed ones are in order and apart.
--     FitPlace                      They fit an old text, and the place is where a character starts.
--     left_of                       What is left of a text that is passed.
--     Passes                        From a place with `n` bytes to pass to one some bytes further on. What is passed is
--                                   kept or taken away.
--     IsKept                        Of `n` bytes to pass those before the next edit.
--     BeginsHere                    An edit starts at the place.
--     PutsDeletion                  A list gets a piece without a text, if what it takes away is passed to be deleted.
--     PassRefuses                   No text has a place `n` bytes further on.
--     CarriesOut                    An edit of the second list, of which the bytes before an offset of its text are
--                                   passed, is carried out.
--     CarryRefuses                  It fits no text that is followed as the place says.
--     PutsAll                       A list gets what does these pieces, which begin at an offset or later.
--     Finishes                      Pieces do what is made up to a place, and keep what follows it.
--     Reached                       The edits of the second list but the last ones are carried out, of which the bytes
--                                   before an offset are passed.
--     PutsSome                      The pieces but the last ones are put.
--     Puts                          A list in order up to an offset gets what does a piece from there on.
--     PassesIn, CarriedIn, PutsIn, PutsAllIn, PutsSomeIn
--                                   What these say of one old text.
use Rattle.std.specs.Prelude.{◌≡◌, ℕ, ◌-◌, ◌<◌, ◌^◌, min, List, [], ◌∷◌, ◌++◌, length, take, drop, slice_range, IsCharBoundary}
use Rattle.text_edit.specs.TextPiece.{TextPiece, pieces, AreApart, FitsText, FitText, applied_from, applied}
use Rattle.text_edit.specs.OrderRefusal.{piece_at}
use Rattle.text_edit.specs.declared.compose.Composing.{Composing}
use Rattle.text_edit.specs.declared.compose.Pass.{Pass}
use Rattle.text_edit.specs.declared.compose.Pass.TheVariants.{Keep, Delete}
use Rattle.text_edit.specs.declared.compose_error.ComposeError.{ComposeError}
use Rattle.text_edit.specs.declared.compose_error.ComposeError.TheVariants.{InsideCharacter, TooLong, Memory}

pub record Place : Type 0 where
  pub left : List ℕ
  pub at : ℕ
  pub rest : List TextPiece
  pub out : List TextPiece

abbrev pub place_of : Composing → Place
place_of c = record { left = c.left.now; at = c.at; rest = pieces c.rest.now; out = pieces c.out.items }

abbrev pub following : Place → List ℕ → List ℕ
following p s = p.left ++ applied_from p.at p.rest (drop p.at s)

abbrev pub made : Place → List ℕ → List ℕ
made p s = applied p.out (take p.at s)

pub record IsPlace (p : Place) : Type 0 where
  pub rest_apart : AreApart p.at p.rest (2 ^ 64)
  pub out_apart : AreApart 0 p.out p.at

pub record FitPlace (p : Place) (s : List ℕ) : Type 0 where
  pub here : IsCharBoundary s p.at
  pub rest_fit : FitText s p.rest
  pub out_fit : FitText s p.out

abbrev pub left_of : Pass → List ℕ → List ℕ
left_of Keep t = t
left_of Delete t = []

pub record PassesIn (pass : Pass) (k : ℕ) (p q : Place) (s : List ℕ) : Type 0 where
  pub fit : FitPlace q s
  pub followed : following q s ≡ drop k (following p s)
  pub grown : made q s ≡ made p s ++ left_of pass (take k (following p s))

abbrev pub Passes : Pass → ℕ → ℕ → Place → Place → Type 0
Passes pass n k p q = (s : List ℕ) → FitPlace p s → IsCharBoundary (following p s) n → PassesIn pass k p q s

abbrev pub PassRefuses : ℕ → ℕ → Place → ComposeError → Type 0
PassRefuses index n p (InsideCharacter i) = (i ≡ index)
    × ((s : List ℕ) → length s < 2 ^ 64 → FitPlace p s → ¬ (IsCharBoundary (following p s) n))
PassRefuses index n p (TooLong i) = (i ≡ index)
    × ((s : List ℕ) → length s < 2 ^ 64 → FitPlace p s → ¬ (IsCharBoundary (following p s) n))
PassRefuses index n p Memory = Unit {0}

pub record PutsIn (old new : List TextPiece) (from to : ℕ) (text : List ℕ) (s : List ℕ) : Type 0 where
  pub fit : FitText s new
  pub grown : applied new (take to s) ≡ applied old (take from s) ++ text

pub record Puts (old new : List TextPiece) (from to : ℕ) (text : List ℕ) : Type 0 where
  pub apart : AreApart 0 new to
  pub puts : (s : List ℕ) → FitText s old → IsCharBoundary s from → IsCharBoundary s to → PutsIn old new from to text s

abbrev pub IsKept : ℕ → List TextPiece → ℕ → ℕ → Type 0
IsKept at [] n k = k ≡ n
IsKept at (e ∷ es) n k = k ≡ min n (e.first - at)

abbrev pub PutsDeletion : Pass → List TextPiece → List TextPiece → ℕ → ℕ → Type 0
PutsDeletion Keep old new from to = new ≡ old
PutsDeletion Delete old new from to = Puts old new from to []

abbrev pub BeginsHere : Place → Type 0
BeginsHere p = (0 < length p.rest) × ((piece_at p.rest 0).first ≡ p.at)

pub record CarriedIn (passed : ℕ) (e : TextPiece) (p q : Place) (t s : List ℕ) : Type 0 where
  pub fit : FitPlace q s
  pub followed : following q s ≡ drop e.stop t
  pub grown : made q s ≡ made p s ++ slice_range t passed e.first ++ e.text

abbrev pub CarriesOut : ℕ → TextPiece → Place → Place → Type 0
CarriesOut passed e p q = (t s : List ℕ) → FitPlace p s → following p s ≡ drop passed t → FitsText t e
    → CarriedIn passed e p q t s

abbrev pub CarryRefuses : ℕ → ℕ → TextPiece → Place → ComposeError → Type 0
CarryRefuses index passed e p (InsideCharacter i) = (i ≡ index)
    × ((t s : List ℕ) → length s < 2 ^ 64 → FitPlace p s → following p s ≡ drop passed t → ¬ (FitsText t e))
CarryRefuses index passed e p (TooLong i) = (i ≡ index)
    × ((t s : List ℕ) → length s < 2 ^ 64 → FitPlace p s → following p s ≡ drop passed t → ¬ (FitsText t e))
CarryRefuses index passed e p Memory = Unit {0}

pub record PutsAllIn (old new : List TextPiece) (at : ℕ) (es : List TextPiece) (s : List ℕ) : Type 0 where
  pub fit : FitText s new
  pub grown : applied new s ≡ applied old (take at s) ++ applied_from at es (drop at s)

pub record PutsAll (old new : List TextPiece) (at : ℕ) (es : List TextPiece) : Type 0 where
  pub apart : AreApart 0 new (2 ^ 64)
  pub puts : (s : List ℕ) → FitText s old → IsCharBoundary s at → FitText s es → PutsAllIn old new at es s

pub record Finishes (p : Place) (es : List TextPiece) : Type 0 where
  pub apart : AreApart 0 es (2 ^ 64)
  pub whole : (s : List ℕ) → FitPlace p s → FitText s es × (applied es s ≡ made p s ++ following p s)

pub record Reached (first next : List TextPiece) (passed : ℕ) (rest : List TextPiece) (p : Place) (s : List ℕ)
    : Type 0 where
  pub fit : FitPlace p s
  pub followed : following p s ≡ drop passed (applied first s)
  pub grown : made p s ++ applied_from passed rest (drop passed (applied first s)) ≡ applied next (applied first s)

pub record PutsSomeIn (old new : List TextPiece) (at gone : ℕ) (es rest : List TextPiece) (s : List ℕ) : Type 0 where
  pub fit : FitText s new
  pub rest_fit : FitText s rest
  pub here : IsCharBoundary s gone
  pub grown : applied new (take gone s) ++ applied_from gone rest (drop gone s)
      ≡ applied old (take at s) ++ applied_from at es (drop at s)

abbrev pub PutsSome : List TextPiece → List TextPiece → ℕ → List TextPiece → List TextPiece → Type 0
PutsSome old new at es rest = (gone : ℕ) × AreApart 0 new gone × AreApart gone rest (2 ^ 64)
    × ((s : List ℕ) → FitText s old → IsCharBoundary s at → FitText s es → PutsSomeIn old new at gone es rest s)
