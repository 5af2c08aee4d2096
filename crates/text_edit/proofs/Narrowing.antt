-- An edit without what it leaves as it was.
use Rattle.std.proofs.Common.{◌≡◌, ◌≢◌, ◌∙◌, ◌+◌, ◌-◌, ◌≤◌, ℕ, List, [], ◌∷◌, ◌++◌, length, take, drop, ap, sym, subst, arith, inl, inr, slice_range, IsCharBoundary}
use Rattle.std.specs.Prelude.{encode_utf8, encode_utf8_all}
use Rattle.std.specs.Str.{IsUtf8}
use Rattle.std.specs.Str.Pattern.{StripsPrefix, StripsSuffix, FindsCharPrefix, FindsCharSuffix}
use Rattle.std.proofs.Math.Seq.{take-append_seam, drop-append_seam, drop-length, take-add}
use Rattle.std.proofs.lemmas.List.{append_assoc, append-nil, drop-drop, take_at, drop_at, take-append-drop, nil_from_length, length-append, length-drop, length-take-le}
use Rattle.std.proofs.lemmas.List.Elements.{All-nil, All-cons, All-head, All-tail, All-take, All-drop, All-append}
use Rattle.std.proofs.lemmas.Str.{encode_same, IsUtf8-append, IsUtf8-take, IsUtf8-drop, IsCharBoundary-from_take, IsCharBoundary-from_drop}
use Rattle.text_edit.specs.TextPiece.{TextPiece, AreApart, FitsText, FitText, applied_from, applied}
use Rattle.text_edit.specs.Trimmed.{BeginApart, EndApart, IsTrimmed}
use Rattle.text_edit.specs.inner.Trimming.{Narrows}
use Rattle.text_edit.proofs.AppliedParts.{applied_from-kept}
use Rattle.text_edit.proofs.Inverting.{kept, length-kept, applied-parts, old-parts}

-- what `strip_prefix` and `strip_suffix` give for a character
pub strip-start : (c : ℕ) (s x : List ℕ) → StripsPrefix (FindsCharPrefix c) s x → s ≡ encode_utf8 c ++ x
strip-start c s x h = h.1.split ∙ ap (λ t. encode_utf8 c ++ t) (sym h.2)

pub strip-end : (c : ℕ) (s x : List ℕ) → StripsSuffix (FindsCharSuffix c) s x → s ≡ x ++ encode_utf8 c
strip-end c s x h =
    let last : drop (length s - h.0) s ≡ encode_utf8 c = h.1.1.split ∙ ap (λ t. encode_utf8 c ++ t) (drop-length s) ∙ append-nil (encode_utf8 c) in
    sym (take-append-drop (length s - h.0) s) ∙ ap (λ t. t ++ drop (length s - h.0) s) (sym h.2) ∙ ap (λ t. x ++ t) last

-- what begins apart still does without a common end
begin-chars : (o t q : List ℕ) (cs : List ℕ) → encode_utf8_all cs ≡ o → BeginApart (o ++ q) (t ++ q) → BeginApart o t
begin-chars o t q [] is apart = inl (sym is)
begin-chars o t q (d ∷ ds) is (inl none) = let empty : length (o ++ q) ≡ 0 = ap length none in inl (nil_from_length o (let n : length o ≡ 0 = omega (arith, length-append o q) in n))
begin-chars o t q (d ∷ ds) is (inr apart) =
    let rest = encode_utf8_all ds in
    let both : encode_utf8 d ++ (rest ++ q) ≡ encode_utf8 apart.0 ++ apart.1 = sym (append_assoc (encode_utf8 d) rest q) ∙ ap (λ x. x ++ q) is ∙ apart.2 in
    let same : d ≡ apart.0 = (encode_same d apart.0 (rest ++ q) apart.1 both).0 in
    inr (apart.0, rest, sym is ∙ ap (λ c. encode_utf8 c ++ rest) same, λ others h. apart.3 (others ++ q) (ap (λ x. x ++ q) h ∙ append_assoc (encode_utf8 apart.0) others q))

pub BeginApart-cut : (o t q : List ℕ) → IsUtf8 o → BeginApart (o ++ q) (t ++ q) → BeginApart o t
BeginApart-cut o t q utf8 apart = begin-chars o t q utf8.0 utf8.1.1 apart

AreApart-earlier : (from earlier : ℕ) (es : List TextPiece) (to : ℕ) → earlier ≤ from → AreApart from es to → AreApart earlier es to
AreApart-earlier from earlier [] to le apart = omega arith
AreApart-earlier from earlier (e ∷ es) to le apart = (omega arith, apart.1, apart.2)

-- nothing is left of an edit
module _ (s : List ℕ) (e : TextPiece) (own : FitsText s e) (same : slice_range s e.first e.stop ≡ e.text) where
  nothing-same : (gone to : ℕ) (es : List TextPiece) → AreApart gone (e ∷ es) to → applied_from gone es (drop gone s) ≡ applied_from gone (e ∷ es) (drop gone s)
  nothing-same gone to es apart =
      let k = kept s gone to e es apart own.0.0 in
      let r = slice_range s e.first e.stop in
      let r_len : length r ≡ e.stop - e.first = (let short : e.stop - e.first ≤ length (drop e.first s) = omega (arith, length-drop e.first s, own.1.0) in length-take-le (e.stop - e.first) (drop e.first s) short) in
      let k_len = length-kept s gone to e es apart own.0.0 in
      let after : gone ≤ e.first = apart.0 in
      let ordered : e.first ≤ e.stop = apart.1 in
      let len : gone + length (k ++ r) ≡ e.stop = omega (arith, length-append k r) in
      ap (applied_from gone es) (sym (old-parts s gone to e es apart own.0.0)) ∙ applied_from-kept gone e.stop to es (k ++ r) (drop e.stop s) len apart.2 ∙ ap (λ x. k ++ x ++ applied_from e.stop es (drop e.stop s)) same ∙ sym (applied-parts s gone to e es apart own.0.0)

  pub Narrows-nothing : Narrows s e []
  Narrows-nothing = record {
    apart = λ gone to es apart. AreApart-earlier e.stop gone es to (omega (arith, apart.0, apart.1)) apart.2;
    same = nothing-same;
    fit = All-nil (FitsText s);
    trimmed = All-nil (IsTrimmed s);
  }

pub nothing-left : (r x p o t q o' t' : List ℕ) → r ≡ p ++ o → x ≡ p ++ t → o ≡ o' ++ q → t ≡ t' ++ q → length o' ≡ 0 → length t' ≡ 0 → r ≡ x
nothing-left r x p o t q o' t' r_is x_is o_is t_is none none' =
    r_is ∙ ap (λ y. p ++ y) (o_is ∙ ap (λ y. y ++ q) (nil_from_length o' none ∙ sym (nil_from_length t' none')) ∙ sym t_is) ∙ sym x_is

pub start-left : (s : List ℕ) (e : TextPiece) (p o : List ℕ) → e.first ≤ e.stop → FitsText s e → slice_range s e.first e.stop ≡ p ++ o → e.stop - length o ≡ e.first + length p
start-left s e p o ordered own old_is =
    let short : e.stop - e.first ≤ length (drop e.first s) = omega (arith, length-drop e.first s, own.1.0) in
    let r_len : length (slice_range s e.first e.stop) ≡ e.stop - e.first = length-take-le (e.stop - e.first) (drop e.first s) short in
    let parts : length (slice_range s e.first e.stop) ≡ length p + length o = ap length old_is ∙ length-append p o in
    omega arith

-- some of it is left: between a common start and a common end
module _ (s : List ℕ) (e d : TextPiece) (p o q : List ℕ) (utf8 : IsUtf8 s) (ordered : e.first ≤ e.stop) (own : FitsText s e)
    (old_is : slice_range s e.first e.stop ≡ p ++ (o ++ q)) (new_is : e.text ≡ p ++ (d.text ++ q)) (first_is : d.first ≡ e.first + length p) (stop_is : d.stop ≡ d.first + length o) where
  whole-length : e.stop ≡ e.first + (length p + (length o + length q))
  whole-length =
      let short : e.stop - e.first ≤ length (drop e.first s) = omega (arith, length-drop e.first s, own.1.0) in
      let r_len : length (slice_range s e.first e.stop) ≡ e.stop - e.first = length-take-le (e.stop - e.first) (drop e.first s) short in
      let parts : length (slice_range s e.first e.stop) ≡ length p + (length o + length q) = ap length old_is ∙ length-append p (o ++ q) ∙ ap (λ n. length p + n) (length-append o q) in
      omega arith

  left-same : (gone to : ℕ) (es : List TextPiece) → AreApart gone (e ∷ es) to → applied_from gone (d ∷ es) (drop gone s) ≡ applied_from gone (e ∷ es) (drop gone s)
  left-same gone to es apart =
      let k = kept s gone to e es apart own.0.0 in
      let b = drop e.stop s in
      let rest = applied_from e.stop es b in
      let k_len = length-kept s gone to e es apart own.0.0 in
      let after : gone ≤ e.first = apart.0 in
      let whole = whole-length in
      let cut : drop gone s ≡ (k ++ p) ++ (o ++ (q ++ b)) = sym (old-parts s gone to e es apart own.0.0) ∙ ap (λ x. k ++ x ++ b) old_is ∙ (let t : k ++ (p ++ (o ++ q)) ++ b ≡ (k ++ p) ++ (o ++ (q ++ b)) = simp append_assoc in t) in
      let first : length (k ++ p) ≡ d.first - gone = length-append k p ∙ (let n : length k + length p ≡ d.first - gone = omega arith in n) in
      let stop : length (k ++ p ++ o) ≡ d.stop - gone = length-append (k ++ p) o ∙ (let n : length (k ++ p) + length o ≡ d.stop - gone = omega arith in n) in
      let before : take (d.first - gone) (drop gone s) ≡ k ++ p = ap (take (d.first - gone)) cut ∙ take_at (k ++ p) (o ++ (q ++ b)) (d.first - gone) first in
      let left : drop (d.stop - gone) (drop gone s) ≡ q ++ b = ap (drop (d.stop - gone)) (cut ∙ sym (append_assoc (k ++ p) o (q ++ b))) ∙ drop_at (k ++ p ++ o) (q ++ b) (d.stop - gone) stop in
      let len : d.stop + length q ≡ e.stop = omega arith in
      ap (λ x. x ++ d.text ++ applied_from d.stop es (drop (d.stop - gone) (drop gone s))) before ∙ ap (λ x. k ++ p ++ d.text ++ applied_from d.stop es x) left ∙ ap (λ x. k ++ p ++ d.text ++ x) (applied_from-kept d.stop e.stop to es q b len apart.2)
      ∙ (let t : k ++ p ++ d.text ++ (q ++ rest) ≡ k ++ (p ++ (d.text ++ q)) ++ rest = simp append_assoc in t) ∙ ap (λ x. k ++ x ++ rest) (sym new_is) ∙ sym (applied-parts s gone to e es apart own.0.0)

  -- the old text from there on
  drop-first : drop d.first s ≡ o ++ (q ++ drop e.stop s)
  drop-first =
      let n = e.stop - e.first in
      let whole = whole-length in
      let sum : e.first + n ≡ e.stop = omega arith in
      let from : drop e.first s ≡ p ++ (o ++ (q ++ drop e.stop s)) = sym (take-append-drop n (drop e.first s)) ∙ ap (λ x. x ++ drop n (drop e.first s)) old_is ∙ ap (λ x. p ++ (o ++ q) ++ x) (drop-drop n e.first s ∙ ap (λ m. drop m s) sum) ∙ (let t : p ++ (o ++ q) ++ drop e.stop s ≡ p ++ (o ++ (q ++ drop e.stop s)) = simp append_assoc in t) in
      ap (λ m. drop m s) first_is ∙ sym (drop-drop (length p) e.first s) ∙ ap (drop (length p)) from ∙ drop-append_seam p (o ++ (q ++ drop e.stop s))

  pub slice-left : slice_range s d.first d.stop ≡ o
  slice-left = let n : length o ≡ d.stop - d.first = omega arith in ap (take (d.stop - d.first)) drop-first ∙ take_at o (q ++ drop e.stop s) (d.stop - d.first) n

  left-fit : IsUtf8 (o ++ q) → IsUtf8 o → FitsText s d
  left-fit both_utf8 o_utf8 =
      let whole = whole-length in
      let within : d.first ≤ length s = omega (arith, own.1.0) in
      let within' : d.stop ≤ length s = omega (arith, own.1.0) in
      let P : List ℕ → Type 0 = IsUtf8 in
      let rest_utf8 : IsUtf8 (drop e.stop s) = IsUtf8-drop s e.stop utf8 own.1 in
      let from : IsUtf8 (drop d.first s) = subst P (sym (drop-first ∙ sym (append_assoc o q (drop e.stop s)))) (IsUtf8-append (o ++ q) (drop e.stop s) both_utf8 rest_utf8) in
      let first_fit : IsCharBoundary s d.first = IsCharBoundary-from_drop s d.first within from in
      let upto : take d.stop s ≡ take d.first s ++ o = ap (λ n. take n s) stop_is ∙ take-add d.first (length o) s ∙ ap (λ x. take d.first s ++ take (length o) x) drop-first ∙ ap (λ x. take d.first s ++ x) (take-append_seam o (q ++ drop e.stop s)) in
      let before : IsUtf8 (take d.stop s) = subst P (sym upto) (IsUtf8-append (take d.first s) o (IsUtf8-take s d.first utf8 first_fit) o_utf8) in
      (first_fit, IsCharBoundary-from_take s d.stop utf8 within' before)

  pub Narrows-left : IsUtf8 (o ++ q) → IsUtf8 o → BeginApart (o ++ q) (d.text ++ q) → EndApart o d.text → (o ≡ [] → d.text ≢ []) → Narrows s e (d ∷ [])
  Narrows-left both_utf8 o_utf8 begins ends alters =
      let whole = whole-length in
      let P : List ℕ → Type 0 = λ x. BeginApart x d.text in
      let Q : List ℕ → Type 0 = λ x. EndApart x d.text in
      record {
        apart = λ gone to es apart. (omega (arith, apart.0), omega arith, AreApart-earlier e.stop d.stop es to (omega arith) apart.2);
        same = left-same;
        fit = All-cons (FitsText s) d [] (left-fit both_utf8 o_utf8) (All-nil (FitsText s));
        trimmed = All-cons (IsTrimmed s) d [] (record { begins = subst P (sym slice-left) (BeginApart-cut o d.text q o_utf8 begins); ends = subst Q (sym slice-left) ends; alters = λ none. alters (sym slice-left ∙ none) }) (All-nil (IsTrimmed s));
      }

-- an edit of a list
module _ (s : List ℕ) (e : TextPiece) (ds : List TextPiece) (narrows : Narrows s e ds) (es : List TextPiece) (to : ℕ) where
  narrowed-apart : (gone : ℕ) (done : List TextPiece) → AreApart gone (done ++ e ∷ es) to → AreApart gone (done ++ (ds ++ es)) to
  narrowed-apart gone [] apart = narrows.apart gone to es apart
  narrowed-apart gone (a ∷ done) apart = (apart.0, apart.1, narrowed-apart a.stop done apart.2)

  narrowed-same : (gone : ℕ) (done : List TextPiece) → AreApart gone (done ++ e ∷ es) to → applied_from gone (done ++ (ds ++ es)) (drop gone s) ≡ applied_from gone (done ++ e ∷ es) (drop gone s)
  narrowed-same gone [] apart = narrows.same gone to es apart
  narrowed-same gone (a ∷ done) apart =
      let whole : gone + (a.stop - gone) ≡ a.stop = omega (arith, apart.0, apart.1) in
      let rest : drop (a.stop - gone) (drop gone s) ≡ drop a.stop s = drop-drop (a.stop - gone) gone s ∙ ap (λ n. drop n s) whole in
      let before = take (a.first - gone) (drop gone s) ++ a.text in
      ap (λ x. before ++ applied_from a.stop (done ++ (ds ++ es)) x) rest ∙ ap (λ x. before ++ x) (narrowed-same a.stop done apart.2) ∙ ap (λ x. before ++ applied_from a.stop (done ++ e ∷ es) x) (sym rest)

  pub narrowed-fit : (done : List TextPiece) → FitText s (done ++ e ∷ es) → FitText s (done ++ (ds ++ es))
  narrowed-fit done fit =
      let P : List TextPiece → Type 0 = FitText s in
      let done_fit : FitText s done = subst P (take-append_seam done (e ∷ es)) (All-take (FitsText s) (length done) (done ++ e ∷ es) fit) in
      let es_fit : FitText s es = All-tail (FitsText s) e es (subst P (drop-append_seam done (e ∷ es)) (All-drop (FitsText s) (length done) (done ++ e ∷ es) fit)) in
      All-append (FitsText s) done (ds ++ es) done_fit (All-append (FitsText s) ds es narrows.fit es_fit)

  pub narrowed-apart_all : (done : List TextPiece) → AreApart 0 (done ++ e ∷ es) to → AreApart 0 (done ++ (ds ++ es)) to
  narrowed-apart_all done apart = narrowed-apart 0 done apart

  pub narrowed-same_all : (done : List TextPiece) → AreApart 0 (done ++ e ∷ es) to → applied (done ++ (ds ++ es)) s ≡ applied (done ++ e ∷ es) s
  narrowed-same_all done apart = narrowed-same 0 done apart

pub middle-ordered : (from : ℕ) (done : List TextPiece) (e : TextPiece) (es : List TextPiece) (to : ℕ) → AreApart from (done ++ e ∷ es) to → e.first ≤ e.stop
middle-ordered from [] e es to apart = apart.1
middle-ordered from (a ∷ done) e es to apart = middle-ordered a.stop done e es to apart.2

pub middle-fit : (s : List ℕ) (done : List TextPiece) (e : TextPiece) (es : List TextPiece) → FitText s (done ++ e ∷ es) → FitsText s e
middle-fit s done e es fit = let P : List TextPiece → Type 0 = FitText s in All-head (FitsText s) e es (subst P (drop-append_seam done (e ∷ es)) (All-drop (FitsText s) (length done) (done ++ e ∷ es) fit))
