-- The edits of the second list, one by one.
use Rattle.std.proofs.Common.{◌≡◌, ◌∙◌, ◌+◌, ◌-◌, ◌<◌, ◌≤◌, ◌^◌, ℕ, List, [], ◌∷◌, ◌++◌, length, take, drop, ap, sym, refl, subst, arith, IsCharBoundary, slice_range}
use Rattle.std.specs.Str.{IsUtf8}
use Rattle.std.proofs.lemmas.Str.{IsCharBoundary-start}
use Rattle.std.proofs.Math.Seq.{take-append_seam, drop-append_seam}
use Rattle.std.proofs.lemmas.List.{append_assoc, append-nil, drop-drop}
use Rattle.std.proofs.lemmas.List.Elements.{All-nil, All-head, All-tail, All-take, All-drop}
use Rattle.text_edit.specs.TextPiece.{TextPiece, AreApart, FitsText, FitText, applied_from, applied}
use Rattle.text_edit.specs.Composition.{FitNone, ComposeRefuses}
use Rattle.text_edit.specs.inner.Composing.{Place, following, made, FitPlace, Passes, PassRefuses, Puts, CarriesOut, CarryRefuses, PutsSome, PutsSomeIn, PutsAll, Finishes, Reached}
use Rattle.text_edit.specs.declared.compose.Pass.TheVariants.{Keep, Delete}
use Rattle.text_edit.specs.declared.compose_error.ComposeError.{ComposeError}
use Rattle.text_edit.specs.declared.compose_error.ComposeError.TheVariants.{InsideCharacter, TooLong, Memory}
use Rattle.text_edit.proofs.Ordered.{AreApart-further}
use Rattle.text_edit.proofs.Applied.{applied_from-next}
use Rattle.text_edit.proofs.AppliedParts.{applied-further, applied-whole}
use Rattle.text_edit.proofs.Passing.{place, boundary-drop}

-- one of several pieces is put
pub PutsSome-start : (out : List TextPiece) (at : ℕ) (es : List TextPiece) → AreApart 0 out at → AreApart at es (2 ^ 64) → PutsSome out out at es es
PutsSome-start out at es before behind = (at, before, behind, λ s fit here es_fit. record { fit = fit; rest_fit = es_fit; here = here; grown = refl })

pub PutsSome-put : (old out new : List TextPiece) (at gone : ℕ) (es rest : List TextPiece) (e : TextPiece) → AreApart 0 out gone → AreApart gone (e ∷ rest) (2 ^ 64) → ((s : List ℕ) → FitText s old → IsCharBoundary s at → FitText s es → PutsSomeIn old out at gone es (e ∷ rest) s) → Puts out new e.first e.stop e.text → PutsSome old new at es rest
PutsSome-put old out new at gone es rest e before behind some puts = (
  e.stop,
  puts.apart,
  behind.2,
  λ s fit here es_fit.
      let was = some s fit here es_fit in
      let e_fit : FitsText s e = All-head (FitsText s) e rest was.rest_fit in
      let put = puts.puts s was.fit e_fit.0 e_fit.1 in
      let start : gone + (e.first - gone) ≡ e.first = omega (arith, behind.0) in
      let inside : gone + (e.first - gone) ≤ length s = omega (arith, e_fit.0.0) in
      let done = applied out (take gone s) in
      let kept : applied out (take e.first s) ≡ done ++ slice_range s gone e.first = ap (λ n. applied out (take n s)) (sym start) ∙ applied-further out gone (e.first - gone) s before inside in
      let rest_is = applied_from e.stop rest (drop e.stop s) in
      record {
        fit = put.fit;
        rest_fit = All-tail (FitsText s) e rest was.rest_fit;
        here = e_fit.1;
        grown = ap (λ t. t ++ rest_is) (put.grown ∙ ap (λ t. t ++ e.text) kept) ∙ applied_from-next s gone e rest done behind.0 behind.1 ∙ was.grown;
      },
)

pub PutsSome-all : (old new : List TextPiece) (at : ℕ) (es : List TextPiece) → PutsSome old new at es [] → PutsAll old new at es
PutsSome-all old new at es some = record {
  apart = AreApart-further 0 new some.0 (2 ^ 64) some.1 some.2;
  puts = λ s fit here es_fit.
      let was = some.3 s fit here es_fit in
      record { fit = was.fit; grown = applied-whole new some.0 s some.1 was.here.0 ∙ was.grown };
}

-- the composition is finished
pub Finishes-all : (left : List ℕ) (at : ℕ) (rest out new es : List TextPiece) → Puts out new at at left → PutsAll new es at rest → Finishes (place left at rest out) es
Finishes-all left at rest out new es puts all = record {
  apart = all.apart;
  whole = λ s fit.
      let put = puts.puts s fit.out_fit fit.here fit.here in
      let done = all.puts s put.fit fit.here fit.rest_fit in
      (done.fit, done.grown ∙ ap (λ t. t ++ applied_from at rest (drop at s)) put.grown ∙ append_assoc (applied out (take at s)) left (applied_from at rest (drop at s)));
}

-- an edit of the second list: bytes are kept, a text is put, and bytes are taken away
module _ (passed : ℕ) (e : TextPiece) (p p' : Place) (new : List TextPiece) (after : passed ≤ e.first) (own : e.first ≤ e.stop) where
  to_start : (t s : List ℕ) → following p s ≡ drop passed t → FitsText t e → IsCharBoundary (following p s) (e.first - passed)
  to_start t s followed e_fit =
      let whole : e.first ≡ passed + (e.first - passed) = omega arith in
      let P : ℕ → Type 0 = IsCharBoundary t in
      let Q : List ℕ → Type 0 = λ f. IsCharBoundary f (e.first - passed) in
      subst Q (sym followed) (boundary-drop t passed (e.first - passed) (subst P whole e_fit.0))

  pub carry-refuses-before : (i : ℕ) (x : ComposeError) → PassRefuses i (e.first - passed) p x → CarryRefuses i passed e p x
  carry-refuses-before i (InsideCharacter n) refuses = (refuses.0, λ t s short fit followed e_fit. refuses.1 s short fit (to_start t s followed e_fit))
  carry-refuses-before i (TooLong n) refuses = (refuses.0, λ t s short fit followed e_fit. refuses.1 s short fit (to_start t s followed e_fit))
  carry-refuses-before i Memory refuses = tt

  module _ (kept : Passes Keep (e.first - passed) (e.first - passed) p p') (puts : Puts p'.out new p'.at p'.at e.text) where
    abbrev put : Place
    put = place p'.left p'.at p'.rest new

    put-fit : (t s : List ℕ) → FitPlace p s → following p s ≡ drop passed t → FitsText t e → FitPlace put s
    put-fit t s fit followed e_fit =
        let was = kept s fit (to_start t s followed e_fit) in
        record { here = was.fit.here; rest_fit = was.fit.rest_fit; out_fit = (puts.puts s was.fit.out_fit was.fit.here was.fit.here).fit }

    put-followed : (t s : List ℕ) → FitPlace p s → following p s ≡ drop passed t → FitsText t e → following put s ≡ drop e.first t
    put-followed t s fit followed e_fit =
        let was = kept s fit (to_start t s followed e_fit) in
        let whole : passed + (e.first - passed) ≡ e.first = omega arith in
        was.followed ∙ ap (drop (e.first - passed)) followed ∙ drop-drop (e.first - passed) passed t ∙ ap (λ n. drop n t) whole

    put-made : (t s : List ℕ) → FitPlace p s → following p s ≡ drop passed t → FitsText t e → made put s ≡ made p s ++ slice_range t passed e.first ++ e.text
    put-made t s fit followed e_fit =
        let was = kept s fit (to_start t s followed e_fit) in
        (puts.puts s was.fit.out_fit was.fit.here was.fit.here).grown ∙ ap (λ x. x ++ e.text) (was.grown ∙ ap (λ f. made p s ++ take (e.first - passed) f) followed)

    to_stop : (t s : List ℕ) → FitPlace p s → following p s ≡ drop passed t → FitsText t e → IsCharBoundary (following put s) (e.stop - e.first)
    to_stop t s fit followed e_fit =
        let whole : e.stop ≡ e.first + (e.stop - e.first) = omega arith in
        let P : ℕ → Type 0 = IsCharBoundary t in
        let Q : List ℕ → Type 0 = λ f. IsCharBoundary f (e.stop - e.first) in
        subst Q (sym (put-followed t s fit followed e_fit)) (boundary-drop t e.first (e.stop - e.first) (subst P whole e_fit.1))

    pub carry-refuses-behind : (i : ℕ) (x : ComposeError) → PassRefuses i (e.stop - e.first) put x → CarryRefuses i passed e p x
    carry-refuses-behind i (InsideCharacter n) refuses = (refuses.0, λ t s short fit followed e_fit. refuses.1 s short (put-fit t s fit followed e_fit) (to_stop t s fit followed e_fit))
    carry-refuses-behind i (TooLong n) refuses = (refuses.0, λ t s short fit followed e_fit. refuses.1 s short (put-fit t s fit followed e_fit) (to_stop t s fit followed e_fit))
    carry-refuses-behind i Memory refuses = tt

    pub CarriesOut-passed : (q : Place) → Passes Delete (e.stop - e.first) (e.stop - e.first) put q → CarriesOut passed e p q
    CarriesOut-passed q gone t s fit followed e_fit =
        let was = gone s (put-fit t s fit followed e_fit) (to_stop t s fit followed e_fit) in
        let whole : e.first + (e.stop - e.first) ≡ e.stop = omega arith in
        record {
          fit = was.fit;
          followed = was.followed ∙ ap (drop (e.stop - e.first)) (put-followed t s fit followed e_fit) ∙ drop-drop (e.stop - e.first) e.first t ∙ ap (λ n. drop n t) whole;
          grown = was.grown ∙ append-nil (made put s) ∙ put-made t s fit followed e_fit;
        }

-- the last of some pieces that fit, and the others
pub FitText-others : (s : List ℕ) (es : List TextPiece) (e : TextPiece) → FitText s (es ++ e ∷ []) → FitText s es
FitText-others s es e fit = let P : List TextPiece → Type 0 = FitText s in subst P (take-append_seam es (e ∷ [])) (All-take (FitsText s) (length es) (es ++ e ∷ []) fit)

pub FitText-last : (s : List ℕ) (es : List TextPiece) (e : TextPiece) → FitText s (es ++ e ∷ []) → FitsText s e
FitText-last s es e fit = All-head (FitsText s) e [] (let P : List TextPiece → Type 0 = FitText s in subst P (drop-append_seam es (e ∷ [])) (All-drop (FitsText s) (length es) (es ++ e ∷ []) fit))

-- one more edit of the second list is carried out
pub Reached-next : (first next rest : List TextPiece) (passed : ℕ) (e : TextPiece) (p q : Place) (s : List ℕ) → passed ≤ e.first → e.first ≤ e.stop → CarriesOut passed e p q → FitsText (applied first s) e → Reached first next passed (e ∷ rest) p s → Reached first next e.stop rest q s
Reached-next first next rest passed e p q s after own carries e_fit was =
    let t = applied first s in
    let carried = carries t s was.fit was.followed e_fit in
    record {
      fit = carried.fit;
      followed = carried.followed;
      grown = ap (λ x. x ++ applied_from e.stop rest (drop e.stop t)) carried.grown ∙ applied_from-next t passed e rest (made p s) after own ∙ was.grown;
    }

-- before the first edit of the second list
pub Reached-start : (first next : List TextPiece) (s : List ℕ) → IsUtf8 s → FitText s first → Reached first next 0 next (place [] 0 first []) s
Reached-start first next s utf8 fit = record {
  fit = record { here = IsCharBoundary-start s utf8; rest_fit = fit; out_fit = All-nil (FitsText s) };
  followed = refl;
  grown = refl;
}

-- behind the last one
pub Reached-end : (first next es : List TextPiece) (passed : ℕ) (p : Place) (s : List ℕ) → Finishes p es → Reached first next passed [] p s → FitText s es × (applied es s ≡ applied next (applied first s))
Reached-end first next es passed p s finishes was =
    let whole = finishes.whole s was.fit in
    (whole.0, whole.1 ∙ ap (λ t. made p s ++ t) was.followed ∙ was.grown)

-- an edit of the second list is refused
module _ (first next rest : List TextPiece) (i passed : ℕ) (e : TextPiece) (p : Place) (inside : i < length next) (more : take (i + 1) next ≡ take i next ++ e ∷ []) (reached : (s : List ℕ) → IsUtf8 s → FitText s first → FitText (applied first s) (take i next) → Reached first next passed rest p s) where
  none-fit : ((t s : List ℕ) → length s < 2 ^ 64 → FitPlace p s → following p s ≡ drop passed t → ¬ (FitsText t e)) → FitNone first (take (i + 1) next)
  none-fit refuses s utf8 short fit fits =
      let t = applied first s in
      let P : List TextPiece → Type 0 = FitText t in
      let fits' : FitText t (take i next ++ e ∷ []) = subst P more fits in
      let was = reached s utf8 fit (FitText-others t (take i next) e fits') in
      refuses t s short was.fit was.followed (FitText-last t (take i next) e fits')

  abbrev RefusedAt : ℕ → Type 0
  RefusedAt k = (k < length next) × FitNone first (take (k + 1) next)

  pub compose-refuses : (x : ComposeError) → CarryRefuses i passed e p x → ComposeRefuses first next x
  compose-refuses (InsideCharacter n) refuses = (let P : ℕ → Type 0 = RefusedAt in subst P (sym refuses.0) (inside, none-fit refuses.1))
  compose-refuses (TooLong n) refuses = (let P : ℕ → Type 0 = RefusedAt in subst P (sym refuses.0) (inside, none-fit refuses.1))
  compose-refuses Memory refuses = tt
