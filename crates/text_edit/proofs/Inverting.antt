-- What takes back what pieces do.
use Rattle.std.proofs.Common.{◌≡◌, ◌∙◌, ◌+◌, ◌-◌, ◌≤◌, ℕ, List, [], ◌∷◌, ◌++◌, length, take, drop, ap, sym, refl, subst, arith, IsCharBoundary, slice_range}
use Rattle.std.specs.Str.{IsUtf8}
use Rattle.std.proofs.lemmas.List.{append_assoc, drop-drop, take_at, drop_at, take-append-drop, length-append, length-drop, length-take-le}
use Rattle.std.proofs.lemmas.List.Elements.{All-nil, All-cons, All-head, All-tail}
use Rattle.std.proofs.lemmas.Str.{IsUtf8-append, IsUtf8-between, IsUtf8-drop, IsUtf8-string_bytes, IsCharBoundary-at_seam, IsCharBoundary-start}
use Rattle.text_edit.specs.declared.text_edit.TextEdit.{TextEdit}
use Rattle.text_edit.specs.TextPiece.{TextPiece, pieces, AreApart, FitsText, FitText, applied_from, applied}
use Rattle.text_edit.specs.Inverse.{inverted_from, inverted, TakeBack}

abbrev pub AreTexts : List TextPiece → Type 0
AreTexts [] = Unit {0}
AreTexts (e ∷ es) = IsUtf8 e.text × AreTexts es

-- one piece, what is kept before it, and what is behind it
module _ (s : List ℕ) (gone to : ℕ) (e : TextPiece) (es : List TextPiece) (apart : AreApart gone (e ∷ es) to) (inside : e.first ≤ length s) where
  abbrev pub kept : List ℕ
  kept = take (e.first - gone) (drop gone s)

  abbrev pub behind : List ℕ
  behind = applied_from e.stop es (drop e.stop s)

  pub length-kept : length kept ≡ e.first - gone
  length-kept =
      let short : e.first - gone ≤ length (drop gone s) = omega (arith, length-drop gone s, inside) in
      length-take-le (e.first - gone) (drop gone s) short

  drop-stop : drop (e.stop - gone) (drop gone s) ≡ drop e.stop s
  drop-stop = let whole : gone + (e.stop - gone) ≡ e.stop = omega (arith, apart.0, apart.1) in drop-drop (e.stop - gone) gone s ∙ ap (λ n. drop n s) whole

  pub applied-parts : applied_from gone (e ∷ es) (drop gone s) ≡ kept ++ e.text ++ behind
  applied-parts = ap (λ t. kept ++ e.text ++ applied_from e.stop es t) drop-stop

  pub old-parts : kept ++ slice_range s e.first e.stop ++ drop e.stop s ≡ drop gone s
  old-parts =
      let start : gone + (e.first - gone) ≡ e.first = omega (arith, apart.0) in
      let whole : e.first + (e.stop - e.first) ≡ e.stop = omega (arith, apart.1) in
      let from : drop (e.first - gone) (drop gone s) ≡ drop e.first s = drop-drop (e.first - gone) gone s ∙ ap (λ n. drop n s) start in
      let rest : drop (e.stop - e.first) (drop e.first s) ≡ drop e.stop s = drop-drop (e.stop - e.first) e.first s ∙ ap (λ n. drop n s) whole in
      let own = slice_range s e.first e.stop in
      append_assoc kept own (drop e.stop s) ∙ ap (λ t. kept ++ (own ++ t)) (sym rest) ∙ ap (λ t. kept ++ t) (take-append-drop (e.stop - e.first) (drop e.first s)) ∙ ap (λ t. kept ++ t) (sym from) ∙ take-append-drop (e.first - gone) (drop gone s)

-- the text that pieces make is one
pub IsUtf8-applied : (s : List ℕ) (gone to : ℕ) (es : List TextPiece) → IsUtf8 s → IsCharBoundary s gone → AreApart gone es to → FitText s es → AreTexts es → IsUtf8 (applied_from gone es (drop gone s))
IsUtf8-applied s gone to [] utf8 here apart fit texts = IsUtf8-drop s gone utf8 here
IsUtf8-applied s gone to (e ∷ es) utf8 here apart fit texts =
    let own : FitsText s e = All-head (FitsText s) e es fit in
    let k = kept s gone to e es apart own.0.0 in
    let rest = behind s gone to e es apart own.0.0 in
    let before : IsUtf8 k = IsUtf8-between s gone e.first utf8 apart.0 here own.0 in
    let after : IsUtf8 rest = IsUtf8-applied s e.stop to es utf8 own.1 apart.2 (All-tail (FitsText s) e es fit) texts.1 in
    let P : List ℕ → Type 0 = IsUtf8 in
    subst P (sym (applied-parts s gone to e es apart own.0.0)) (IsUtf8-append (k ++ e.text) rest (IsUtf8-append k e.text before texts.0) after)

-- the text is given back
pub inverted-applied : (s : List ℕ) (at gone to : ℕ) (es : List TextPiece) → AreApart gone es to → FitText s es → applied_from at (inverted_from at gone es s) (applied_from gone es (drop gone s)) ≡ drop gone s
inverted-applied s at gone to [] apart fit = refl
inverted-applied s at gone to (e ∷ es) apart fit =
    let own_fit : FitsText s e = All-head (FitsText s) e es fit in
    let k = kept s gone to e es apart own_fit.0.0 in
    let rest = behind s gone to e es apart own_fit.0.0 in
    let first = at + (e.first - gone) in
    let stop = first + length e.text in
    let own = slice_range s e.first e.stop in
    let others = inverted_from stop e.stop es s in
    let parts = applied-parts s gone to e es apart own_fit.0.0 in
    let len = length-kept s gone to e es apart own_fit.0.0 in
    let first_is : first - at ≡ length k = omega arith in
    let both : length (k ++ e.text) ≡ stop - at = length-append k e.text ∙ (let n : length k + length e.text ≡ stop - at = omega arith in n) in
    let start : take (first - at) (k ++ e.text ++ rest) ≡ k = ap (take (first - at)) (append_assoc k e.text rest) ∙ take_at k (e.text ++ rest) (first - at) (sym first_is) in
    let end : drop (stop - at) (k ++ e.text ++ rest) ≡ rest = drop_at (k ++ e.text) rest (stop - at) both in
    ap (applied_from at (inverted_from at gone (e ∷ es) s)) parts ∙ ap (λ t. t ++ own ++ applied_from stop others (drop (stop - at) (k ++ e.text ++ rest))) start ∙ ap (λ t. k ++ own ++ applied_from stop others t) end ∙ ap (λ t. k ++ own ++ t) (inverted-applied s stop e.stop to es apart.2 (All-tail (FitsText s) e es fit)) ∙ old-parts s gone to e es apart own_fit.0.0

-- the inverse fits the new text
pub inverted-fit : (s t before : List ℕ) (at gone to : ℕ) (es : List TextPiece) → IsUtf8 s → IsCharBoundary s gone → AreApart gone es to → FitText s es → AreTexts es → length before ≡ at → t ≡ before ++ applied_from gone es (drop gone s) → FitText t (inverted_from at gone es s)
inverted-fit s t before at gone to [] utf8 here apart fit texts len whole = All-nil (FitsText t)
inverted-fit s t before at gone to (e ∷ es) utf8 here apart fit texts len whole =
    let own : FitsText s e = All-head (FitsText s) e es fit in
    let es_fit : FitText s es = All-tail (FitsText s) e es fit in
    let k = kept s gone to e es apart own.0.0 in
    let rest = behind s gone to e es apart own.0.0 in
    let rest_utf8 : IsUtf8 rest = IsUtf8-applied s e.stop to es utf8 own.1 apart.2 es_fit texts.1 in
    let first = at + (e.first - gone) in
    let stop = first + length e.text in
    let k_len = length-kept s gone to e es apart own.0.0 in
    let at_first : length (before ++ k) ≡ first = length-append before k ∙ (let n : length before + length k ≡ first = omega arith in n) in
    let at_stop : length (before ++ k ++ e.text) ≡ stop = length-append (before ++ k) e.text ∙ ap (λ n. n + length e.text) at_first in
    let parts : t ≡ before ++ (k ++ e.text ++ rest) = whole ∙ ap (λ x. before ++ x) (applied-parts s gone to e es apart own.0.0) in
    let seam : t ≡ (before ++ k ++ e.text) ++ rest = parts ∙ sym (append_assoc before (k ++ e.text) rest) ∙ ap (λ x. x ++ rest) (sym (append_assoc before k e.text)) in
    let seam_before : t ≡ (before ++ k) ++ (e.text ++ rest) = seam ∙ append_assoc (before ++ k) e.text rest in
    let P : ℕ → Type 0 = IsCharBoundary t in
    let first_fit : IsCharBoundary t first = subst P at_first (IsCharBoundary-at_seam t (before ++ k) (e.text ++ rest) seam_before (IsUtf8-append e.text rest texts.0 rest_utf8)) in
    let stop_fit : IsCharBoundary t stop = subst P at_stop (IsCharBoundary-at_seam t (before ++ k ++ e.text) rest seam rest_utf8) in
    All-cons (FitsText t) (record { first = first; stop = stop; text = slice_range s e.first e.stop }) (inverted_from stop e.stop es s) (first_fit, stop_fit) (inverted-fit s t (before ++ k ++ e.text) stop e.stop to es utf8 own.1 apart.2 es_fit texts.1 at_stop seam)

pub inverted-takes_back : (s : List ℕ) (to : ℕ) (es : List TextPiece) → IsUtf8 s → AreApart 0 es to → FitText s es → AreTexts es → TakeBack es s (inverted es s)
inverted-takes_back s to es utf8 apart fit texts =
    (inverted-fit s (applied es s) [] 0 0 to es utf8 (IsCharBoundary-start s utf8) apart fit texts refl refl, inverted-applied s 0 0 to es apart fit)

pub texts-of : (es : List TextEdit) → AreTexts (pieces es)
texts-of [] = tt
texts-of (x ∷ xs) = (IsUtf8-string_bytes x.text, texts-of xs)

-- how long the text is that pieces make
pub applied-count : (s : List ℕ) (gone to : ℕ) (e : TextPiece) (es : List TextPiece) → AreApart gone (e ∷ es) to → FitText s (e ∷ es) → length (applied_from gone (e ∷ es) (drop gone s)) ≡ (e.first - gone) + length e.text + length (applied_from e.stop es (drop e.stop s))
applied-count s gone to e es apart fit =
    let own : FitsText s e = All-head (FitsText s) e es fit in
    let k = kept s gone to e es apart own.0.0 in
    let rest = behind s gone to e es apart own.0.0 in
    ap length (applied-parts s gone to e es apart own.0.0) ∙ length-append (k ++ e.text) rest ∙ ap (λ n. n + length rest) (length-append k e.text ∙ ap (λ n. n + length e.text) (length-kept s gone to e es apart own.0.0))
