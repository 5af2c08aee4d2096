-- A place between two lists that are composed, some bytes further on.
use Rattle.std.proofs.Common.{◌≡◌, ◌∙◌, ◌+◌, ◌-◌, ◌<◌, ◌≤◌, ◌^◌, ℕ, List, [], ◌∷◌, ◌++◌, length, take, drop, get_or, ap, sym, refl, subst, arith, inl, inr, IsCharBoundary}
use Rattle.std.proofs.Math.Seq.{take-add}
use Rattle.std.proofs.lemmas.List.{append_assoc, append-nil, drop-drop, drop-append-le, take-append-le, take_at, drop_at, take-append-drop, length-take-le, length-drop, get_or-drop, get_or-take, get_or_append_left, length-append}
use Rattle.std.proofs.lemmas.Bool.{cases_lt}
use Rattle.std.proofs.lemmas.List.Elements.{All-head, All-tail}
use Rattle.std.proofs.lemmas.Str.{IsCharBoundary-from_rest}
use Rattle.text_edit.specs.TextPiece.{TextPiece, AreApart, FitsText, FitText, applied_from, applied}
use Rattle.text_edit.specs.inner.Composing.{Place, following, made, left_of, FitPlace, Passes, PassesIn, IsPlace, PassRefuses, Puts, IsKept, PutsDeletion}
use Rattle.text_edit.specs.declared.compose.Pass.{Pass}
use Rattle.text_edit.specs.declared.compose.Pass.TheVariants.{Keep, Delete}
use Rattle.text_edit.specs.declared.compose_error.ComposeError.{ComposeError}
use Rattle.text_edit.specs.declared.compose_error.ComposeError.TheVariants.{InsideCharacter, TooLong, Memory}
use Rattle.text_edit.proofs.Ordered.{AreApart-further}
use Rattle.text_edit.proofs.AppliedParts.{applied_from-kept, applied-further}

abbrev pub place : List ℕ → ℕ → List TextPiece → List TextPiece → Place
place left at rest out = record { left = left; at = at; rest = rest; out = out }

-- some of the text that is left
pub Passes-text : (pass : Pass) (n k at : ℕ) (left : List ℕ) (rest out new : List TextPiece) → k ≤ length left → Puts out new at at (left_of pass (take k left)) → Passes pass n k (place left at rest out) (place (drop k left) at rest new)
Passes-text pass n k at left rest out new inside puts s fit _ =
    let behind = applied_from at rest (drop at s) in
    let put = puts.puts s fit.out_fit fit.here fit.here in
    record {
      fit = record { here = fit.here; rest_fit = fit.rest_fit; out_fit = put.fit };
      followed = sym (drop-append-le k left behind inside);
      grown = put.grown ∙ ap (λ t. applied out (take at s) ++ left_of pass t) (sym (take-append-le k left behind inside));
    }

left_of-nil : (pass : Pass) → left_of pass [] ≡ []
left_of-nil Keep = refl
left_of-nil Delete = refl

-- the next edit begins
pub Passes-begin : (pass : Pass) (n at : ℕ) (e : TextPiece) (es out new : List TextPiece) → at ≡ e.first → e.first ≤ e.stop → Puts out new at e.stop [] → Passes pass n 0 (place [] at (e ∷ es) out) (place e.text e.stop es new)
Passes-begin pass n at e es out new here own puts s fit _ =
    let e_fit : FitsText s e = All-head (FitsText s) e es fit.rest_fit in
    let put = puts.puts s fit.out_fit fit.here e_fit.1 in
    let no_gap : e.first - at ≡ 0 = omega arith in
    let whole : at + (e.stop - at) ≡ e.stop = omega arith in
    let rest_is : drop (e.stop - at) (drop at s) ≡ drop e.stop s = drop-drop (e.stop - at) at s ∙ ap (λ k. drop k s) whole in
    record {
      fit = record { here = e_fit.1; rest_fit = All-tail (FitsText s) e es fit.rest_fit; out_fit = put.fit };
      followed = ap (λ t. e.text ++ applied_from e.stop es t) (sym rest_is) ∙ ap (λ k. take k (drop at s) ++ e.text ++ applied_from e.stop es (drop (e.stop - at) (drop at s))) (sym no_gap);
      grown = put.grown ∙ ap (λ t. applied out (take at s) ++ t) (sym (left_of-nil pass));
    }

-- within what is kept before the next edit
boundary-before : (s : List ℕ) (at n : ℕ) (e : TextPiece) (es : List TextPiece) → at + n < e.first → e.first ≤ length s → IsCharBoundary (applied_from at (e ∷ es) (drop at s)) n → IsCharBoundary s (at + n)
boundary-before s at n e es before within boundary =
    let kept = take (e.first - at) (drop at s) in
    let behind = applied_from e.stop es (drop (e.stop - at) (drop at s)) in
    let short : e.first - at ≤ length (drop at s) = omega (arith, length-drop at s) in
    let len : length kept ≡ e.first - at = length-take-le (e.first - at) (drop at s) short in
    let in_kept : n < e.first - at = omega arith in
    let in_kept' : n < length kept = rw len in_kept in
    let in_kept'' : n < length (kept ++ e.text) = omega (arith, length-append kept e.text) in
    let whole : n < length (kept ++ e.text ++ behind) = omega (arith, length-append (kept ++ e.text) behind) in
    let byte : get_or (kept ++ e.text ++ behind) n 0 ≡ get_or s (at + n) 0 =
    get_or_append_left (kept ++ e.text) behind 0 n in_kept'' ∙ get_or_append_left kept e.text 0 n in_kept' ∙ get_or-take (e.first - at) (drop at s) n 0 in_kept ∙ get_or-drop at s n 0 in
    (omega arith, λ _ high. rw byte at (boundary.1 whole (rw byte high)))

boundary-kept : (s : List ℕ) (at n k : ℕ) (rest : List TextPiece) → FitText s rest → at ≤ length s → AreApart at rest (2 ^ 64) → IsKept at rest n k → IsCharBoundary (applied_from at rest (drop at s)) n → IsCharBoundary s (at + k)
boundary-kept s at n k [] fit inside apart kept boundary = rw kept (IsCharBoundary-from_rest s at n inside boundary)
boundary-kept s at n k (e ∷ es) fit inside apart kept boundary =
    let e_fit : FitsText s e = All-head (FitsText s) e es fit in
    elim (cases_lt (at + n) e.first) [
      | inl before ↦ (let is : k ≡ n = omega arith in rw is (boundary-before s at n e es before e_fit.0.0 boundary))
      | inr past ↦ (let is : at + k ≡ e.first = omega arith in rw is e_fit.0)
    ]

-- the edits to come, from there on
AreApart-kept : (at n k to : ℕ) (rest : List TextPiece) → IsKept at rest n k → AreApart at rest to → AreApart (at + k) rest (to + k)
AreApart-kept at n k to [] kept apart = omega arith
AreApart-kept at n k to (e ∷ es) kept apart = (omega arith, apart.1, AreApart-further e.stop es to (to + k) apart.2 (omega arith))

module _ (n k at : ℕ) (rest : List TextPiece) (kept : IsKept at rest n k) (apart : AreApart at rest (2 ^ 64)) (s : List ℕ) (inside : at + k ≤ length s) where
  length-kept : length (take k (drop at s)) ≡ k
  length-kept = let short : k ≤ length (drop at s) = omega (arith, length-drop at s) in length-take-le k (drop at s) short

  -- the text that is kept, and what is behind it
  kept-split : applied_from at rest (drop at s) ≡ take k (drop at s) ++ applied_from (at + k) rest (drop (at + k) s)
  kept-split =
      let xs = take k (drop at s) in
      let len : at + length xs ≡ at + k = ap (λ m. at + m) length-kept in
      ap (applied_from at rest) (sym (take-append-drop k (drop at s))) ∙ applied_from-kept at (at + k) (2 ^ 64 + k) rest xs (drop k (drop at s)) len (AreApart-kept at n k (2 ^ 64) rest kept apart) ∙ ap (λ t. xs ++ applied_from (at + k) rest t) (drop-drop k at s)

  kept-drop : applied_from (at + k) rest (drop (at + k) s) ≡ drop k (applied_from at rest (drop at s))
  kept-drop = sym (ap (drop k) kept-split ∙ drop_at (take k (drop at s)) (applied_from (at + k) rest (drop (at + k) s)) k length-kept)

  kept-take : take k (applied_from at rest (drop at s)) ≡ take k (drop at s)
  kept-take = ap (take k) kept-split ∙ take_at (take k (drop at s)) (applied_from (at + k) rest (drop (at + k) s)) k length-kept

-- some of what is kept
pub Passes-kept : (pass : Pass) (n k at : ℕ) (rest out new : List TextPiece) → IsKept at rest n k → AreApart at rest (2 ^ 64) → AreApart 0 out at → PutsDeletion pass out new at (at + k) → Passes pass n k (place [] at rest out) (place [] (at + k) rest new)
Passes-kept Keep n k at rest out new kept apart out_apart same s fit boundary =
    let here = boundary-kept s at n k rest fit.rest_fit fit.here.0 apart kept boundary in
    let P : List TextPiece → Type 0 = FitText s in
    record {
      fit = record { here = here; rest_fit = fit.rest_fit; out_fit = subst P (sym same) fit.out_fit };
      followed = kept-drop n k at rest kept apart s here.0;
      grown = ap (λ es. applied es (take (at + k) s)) same ∙ applied-further out at k s out_apart here.0 ∙ ap (λ t. applied out (take at s) ++ t) (sym (kept-take n k at rest kept apart s here.0));
    }
Passes-kept Delete n k at rest out new kept apart out_apart puts s fit boundary =
    let here = boundary-kept s at n k rest fit.rest_fit fit.here.0 apart kept boundary in
    let put = puts.puts s fit.out_fit fit.here here in
    record {
      fit = record { here = here; rest_fit = fit.rest_fit; out_fit = put.fit };
      followed = kept-drop n k at rest kept apart s here.0;
      grown = put.grown;
    }

-- an offset of a text, in what follows another one
pub boundary-drop : (t : List ℕ) (i j : ℕ) → IsCharBoundary t (i + j) → IsCharBoundary (drop i t) j
boundary-drop t i j boundary =
    let byte : get_or (drop i t) j 0 ≡ get_or t (i + j) 0 = get_or-drop i t j 0 in
    (omega (arith, length-drop i t), λ inside high. let within : i + j < length t = omega (arith, length-drop i t) in rw byte (boundary.1 within (rw byte at high)))

-- what is passed at once, of what is passed in two parts
kept-parts : (pass : Pass) (k m : ℕ) (f g : List ℕ) → g ≡ drop k f → left_of pass (take k f) ++ left_of pass (take m g) ≡ left_of pass (take (k + m) f)
kept-parts Keep k m f g is = ap (λ t. take k f ++ take m t) is ∙ sym (take-add k m f)
kept-parts Delete k m f g is = refl

module _ (pass : Pass) (n k : ℕ) (p q : Place) (some : k ≤ n) (first : Passes pass n k p q) where
  boundary-next : (s : List ℕ) (fit : FitPlace p s) (boundary : IsCharBoundary (following p s) n) → IsCharBoundary (following q s) (n - k)
  boundary-next s fit boundary =
      let whole : n ≡ k + (n - k) = omega arith in
      let P : ℕ → Type 0 = IsCharBoundary (following p s) in
      let Q : List ℕ → Type 0 = λ t. IsCharBoundary t (n - k) in
      subst Q (sym (first s fit boundary).followed) (boundary-drop (following p s) k (n - k) (subst P whole boundary))

  pub Passes-then : (m : ℕ) (r : Place) → Passes pass (n - k) m q r → Passes pass n (k + m) p r
  Passes-then m r next s fit boundary =
      let a = first s fit boundary in
      let b = next s a.fit (boundary-next s fit boundary) in
      record {
        fit = b.fit;
        followed = b.followed ∙ ap (drop m) a.followed ∙ drop-drop m k (following p s);
        grown = b.grown ∙ ap (λ t. t ++ left_of pass (take m (following q s))) a.grown ∙ append_assoc (made p s) (left_of pass (take k (following p s))) (left_of pass (take m (following q s))) ∙ ap (λ t. made p s ++ t) (kept-parts pass k m (following p s) (following q s) a.followed);
      }

  pub refuses-before : (i : ℕ) (e : ComposeError) → PassRefuses i (n - k) q e → PassRefuses i n p e
  refuses-before i (InsideCharacter x) refuses = (refuses.0, λ s short fit boundary. refuses.1 s short (first s fit boundary).fit (boundary-next s fit boundary))
  refuses-before i (TooLong x) refuses = (refuses.0, λ s short fit boundary. refuses.1 s short (first s fit boundary).fit (boundary-next s fit boundary))
  refuses-before i Memory refuses = tt

pub Passes-none : (pass : Pass) (n k : ℕ) (p : Place) → k ≡ 0 → Passes pass n k p p
Passes-none pass n k p is s fit _ =
    let P : ℕ → Type 0 = λ m. PassesIn pass m p p s in
    subst P (sym is) (record { fit = fit; followed = refl; grown = sym (ap (λ t. made p s ++ t) (left_of-nil pass) ∙ append-nil (made p s)) })

pub Passes-at : (pass : Pass) (n k : ℕ) (p p' q q' : Place) → p ≡ p' → q ≡ q' → Passes pass n k p' q' → Passes pass n k p q
Passes-at pass n k p p' q q' p_is q_is passes =
    let P : Place → Type 0 = λ x. Passes pass n k x q in
    let Q : Place → Type 0 = λ x. Passes pass n k p' x in
    subst P (sym p_is) (subst Q (sym q_is) passes)

-- a place further on among what is kept
pub IsPlace-kept : (pass : Pass) (n k at : ℕ) (left : List ℕ) (rest out new : List TextPiece) → IsKept at rest n k → at + k < 2 ^ 64 → AreApart at rest (2 ^ 64) → AreApart 0 out at → PutsDeletion pass out new at (at + k) → IsPlace (place left (at + k) rest new)
IsPlace-kept pass n k at left rest out new kept small apart out_apart puts = record { rest_apart = ahead rest kept apart; out_apart = behind pass puts } where
  ahead : (rest : List TextPiece) → IsKept at rest n k → AreApart at rest (2 ^ 64) → AreApart (at + k) rest (2 ^ 64)
  ahead [] kept apart = omega arith
  ahead (e ∷ es) kept apart = (omega arith, apart.1, apart.2)

  behind : (pass : Pass) → PutsDeletion pass out new at (at + k) → AreApart 0 new (at + k)
  behind Keep same = let P : List TextPiece → Type 0 = λ t. AreApart 0 t (at + k) in subst P (sym same) (AreApart-further 0 out at (at + k) out_apart (omega arith))
  behind Delete puts = puts.apart

pub boundary-passed : (s : List ℕ) (n k at : ℕ) (left : List ℕ) (rest out : List TextPiece) → left ≡ [] → IsKept at rest n k → AreApart at rest (2 ^ 64) → FitPlace (place left at rest out) s → IsCharBoundary (following (place left at rest out) s) n → IsCharBoundary s (at + k)
boundary-passed s n k at left rest out none kept apart fit boundary =
    let P : List ℕ → Type 0 = λ l. IsCharBoundary (l ++ applied_from at rest (drop at s)) n in
    boundary-kept s at n k rest fit.rest_fit fit.here.0 apart kept (subst P none boundary)
