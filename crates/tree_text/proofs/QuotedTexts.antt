-- How what is left of an expression goes on within a quoted text, byte by byte.
--     written-as           what is written for a byte, seen from its first byte
--     past-quote, before-quote         the quote that ends the text
--     past-plain, before-plain         bytes that stand for themselves
--     past-escape, before-escape       an escape
use Rattle.std.proofs.Common.{◌≡◌, ◌⊎◌, ℕ, Bool, true, false, not, ◌||◌, cond, List, [], ◌∷◌, ◌++◌, Some, None, refl, sym, ap, ◌∙◌, append_assoc, append-nil, subst, inl, inr}
use Rattle.std.specs.Prelude.{◌==◌, codes}
use Rattle.std.specs.List.{list_all}
use Rattle.std.proofs.lemmas.Bool.{and_parts, false≢true}
use Rattle.std.proofs.lemmas.Bool.{eqb-true, eq-eqb}
use Rattle.cst_core.specs.Tree.{Token}
use Rattle.tree_text.specs.Escape.{escape}
use Rattle.tree_text.specs.Grammar.{◌⨾◌, IsExactly, IsQuoted, IsWritten}
use Rattle.tree_text.specs.inner.Completing.{Then, IsRestOfToken}
use Rattle.tree_text.specs.inner.Meant.{meant}
use Rattle.tree_text.proofs.Joining.{then, regroup-right, regroup-left, widen, drop-exactly}

-- a byte that isn't written as itself alone
abbrev pub is_special : ℕ → Bool
is_special b = b == 34 || b == 92

not-true : (b : Bool) → not b ≡ true → b ≡ false
not-true true is = sym is
not-true false is = refl

-- what is written for a byte: itself, where it is no quote and no backslash, or a backslash and what means it
abbrev IsSeen : ℕ → List ℕ → Type 0
IsSeen b w = ((w ≡ b ∷ []) × (is_special b ≡ false)) ⊎ ((l : ℕ) × (w ≡ 92 ∷ l ∷ []) × (meant l ≡ Some b))

-- by what a byte is
seen-if : (n d r q s : Bool) (b : ℕ) (w : List ℕ) → (n ≡ true → b ≡ 10) → (d ≡ true → b ≡ 13) → (r ≡ true → b ≡ 9) → (q ≡ true → b ≡ 34) → (s ≡ true → b ≡ 92)
    → w ≡ cond n (codes "\\n") (cond d (codes "\\r") (cond r (codes "\\t") (cond q (codes "\\\"") (cond s (codes "\\\\") (b ∷ []))))) → ((w ≡ b ∷ []) × ((q || s) ≡ false)) ⊎ ((l : ℕ) × (w ≡ 92 ∷ l ∷ []) × (meant l ≡ Some b))
seen-if true d r q s b w n' d' r' q' s' is = inr (110, is, ap Some (sym (n' refl)))
seen-if false true r q s b w n' d' r' q' s' is = inr (114, is, ap Some (sym (d' refl)))
seen-if false false true q s b w n' d' r' q' s' is = inr (116, is, ap Some (sym (r' refl)))
seen-if false false false true s b w n' d' r' q' s' is = inr (34, is, ap Some (sym (q' refl)))
seen-if false false false false true b w n' d' r' q' s' is = inr (92, is, ap Some (sym (s' refl)))
seen-if false false false false false b w n' d' r' q' s' is = inl (is, refl)

pub written-as : (b : ℕ) (w : List ℕ) → IsWritten b w → IsSeen b w
written-as b w (inl is) = seen-if (b == 10) (b == 13) (b == 9) (b == 34) (b == 92) b w (eqb-true b 10) (eqb-true b 13) (eqb-true b 9) (eqb-true b 34) (eqb-true b 92) is
written-as b w (inr itself) = inl itself

meant-if : (n d r q s : Bool) (l b : ℕ) → (n ≡ true → l ≡ 110) → (d ≡ true → l ≡ 114) → (r ≡ true → l ≡ 116) → (q ≡ true → l ≡ 34) → (s ≡ true → l ≡ 92)
    → cond n (Some 10) (cond d (Some 13) (cond r (Some 9) (cond q (Some 34) (cond s (Some 92) None)))) ≡ Some b → 92 ∷ l ∷ [] ≡ escape b
meant-if true d r q s l b n' d' r' q' s' is = let same : 10 ≡ b = cc in subst (λ x. 92 ∷ l ∷ [] ≡ escape x) same (ap (λ x. 92 ∷ x ∷ []) (n' refl))
meant-if false true r q s l b n' d' r' q' s' is = let same : 13 ≡ b = cc in subst (λ x. 92 ∷ l ∷ [] ≡ escape x) same (ap (λ x. 92 ∷ x ∷ []) (d' refl))
meant-if false false true q s l b n' d' r' q' s' is = let same : 9 ≡ b = cc in subst (λ x. 92 ∷ l ∷ [] ≡ escape x) same (ap (λ x. 92 ∷ x ∷ []) (r' refl))
meant-if false false false true s l b n' d' r' q' s' is = let same : 34 ≡ b = cc in subst (λ x. 92 ∷ l ∷ [] ≡ escape x) same (ap (λ x. 92 ∷ x ∷ []) (q' refl))
meant-if false false false false true l b n' d' r' q' s' is = let same : 92 ≡ b = cc in subst (λ x. 92 ∷ l ∷ [] ≡ escape x) same (ap (λ x. 92 ∷ x ∷ []) (s' refl))
meant-if false false false false false l b n' d' r' q' s' is = absurd (cc)

escaped-as : (l b : ℕ) → meant l ≡ Some b → IsWritten b (92 ∷ l ∷ [])
escaped-as l b is = inl (meant-if (l == 110) (l == 114) (l == 116) (l == 34) (l == 92) l b (eqb-true l 110) (eqb-true l 114) (eqb-true l 116) (eqb-true l 34) (eqb-true l 92) is)

module _ (Rest : Then) (k : ℕ) where
  abbrev Quoted : List ℕ → List ℕ → List ℕ → Type 0
  Quoted s more w = (IsQuoted more ⨾ IsExactly (codes "\"") ⨾ Rest (Token k (s ++ more))) w

  further : (s more : List ℕ) (b : ℕ) (w : List ℕ) → Quoted s (b ∷ more) w → (IsWritten b ⨾ Quoted (s ++ b ∷ []) more) w
  further s more b w h =
      let P : List ℕ → Type 0 = IsQuoted more ⨾ IsExactly (codes "\"") ⨾ Rest (Token k (s ++ b ∷ more)) in
      let next : (x : List ℕ) → P x → Quoted (s ++ b ∷ []) more x = λ x p. subst (λ l. (IsQuoted more ⨾ IsExactly (codes "\"") ⨾ Rest (Token k l)) x) (sym (append_assoc s (b ∷ []) more)) p in
      widen w (λ x p. p) next (regroup-right w h)

  back : (s more : List ℕ) (b : ℕ) (w : List ℕ) → (IsWritten b ⨾ Quoted (s ++ b ∷ []) more) w → Quoted s (b ∷ more) w
  back s more b w h =
      let P : List ℕ → Type 0 = IsQuoted more ⨾ IsExactly (codes "\"") ⨾ Rest (Token k (s ++ b ∷ more)) in
      let next : (x : List ℕ) → Quoted (s ++ b ∷ []) more x → P x = λ x p. subst (λ l. (IsQuoted more ⨾ IsExactly (codes "\"") ⨾ Rest (Token k l)) x) (append_assoc s (b ∷ []) more) p in
      regroup-left w (widen w (λ x p. p) next h)

  -- what is left of a token begins with the quote that ends it, with a byte for itself, or with an escape
  record HasEscape (s : List ℕ) (w : List ℕ) : Type 0 where
    pub letter : ℕ
    pub byte : ℕ
    pub rest : List ℕ
    pub is : w ≡ letter ∷ rest
    pub means : meant letter ≡ Some byte
    pub on : IsRestOfToken Rest k (s ++ byte ∷ []) rest

  begins : (s more : List ℕ) (c : ℕ) (w : List ℕ) → Quoted s more (c ∷ w)
      → ((c ≡ 34) × Rest (Token k s) w) ⊎ ((is_special c ≡ false) × IsRestOfToken Rest k (s ++ c ∷ []) w) ⊎ ((c ≡ 92) × HasEscape s w)
  begins s [] c w h =
      let close = drop-exactly [] (c ∷ w) h in
      let is : c ∷ w ≡ 34 ∷ close.second = close.joined ∙ ap (λ x. x ++ close.second) close.is_first in
      let same : c ≡ 34 = cc in
      let behind : w ≡ close.second = cc in
      inl (same, subst (λ l. Rest (Token k l) w) (append-nil s) (subst (Rest (Token k (s ++ []))) (sym behind) close.is_second))
  begins s (b ∷ more) c w h =
      let f = further s more b (c ∷ w) h in
      elim (written-as b f.first f.is_first) [
        | inl itself ↦
            let is : c ∷ w ≡ b ∷ f.second = f.joined ∙ ap (λ x. x ++ f.second) itself.0 in
            let same : c ≡ b = cc in
            let behind : w ≡ f.second = cc in
            inr (inl (ap is_special same ∙ itself.1, (more, subst (λ x. Quoted (s ++ x ∷ []) more w) (sym same) (subst (Quoted (s ++ b ∷ []) more) (sym behind) f.is_second))))
        | inr escape ↦
            let is : c ∷ w ≡ 92 ∷ escape.0 ∷ f.second = f.joined ∙ ap (λ x. x ++ f.second) escape.1 in
            let same : c ≡ 92 = cc in
            let behind : w ≡ escape.0 ∷ f.second = cc in
            inr (inr (same, record { letter = escape.0; byte = b; rest = f.second; is = behind; means = escape.2; on = (more, f.is_second) }))
      ]

  pub past-quote : (s w : List ℕ) → IsRestOfToken Rest k s (34 ∷ w) → Rest (Token k s) w
  past-quote s w h = elim (begins s h.0 34 w h.1) [
    | inl close ↦ close.1
    | inr h' ↦ elim h' [
      | inl itself ↦ absurd (false≢true (sym itself.0))
      | inr escape ↦ absurd (false≢true (eq-eqb 34 92 escape.0))
    ]
  ]

  pub before-quote : (s w : List ℕ) → Rest (Token k s) w → IsRestOfToken Rest k s (34 ∷ w)
  before-quote s w h = ([], then [] (34 ∷ w) refl (then (codes "\"") w refl (subst (λ l. Rest (Token k l) w) (sym (append-nil s)) h)))

  past-byte : (s : List ℕ) (c : ℕ) (w : List ℕ) → is_special c ≡ false → IsRestOfToken Rest k s (c ∷ w) → IsRestOfToken Rest k (s ++ c ∷ []) w
  past-byte s c w plain h = elim (begins s h.0 c w h.1) [
    | inl close ↦ absurd (false≢true (sym plain ∙ ap is_special close.0))
    | inr h' ↦ elim h' [
      | inl itself ↦ itself.1
      | inr escape ↦ absurd (false≢true (sym plain ∙ ap is_special escape.0))
    ]
  ]

  before-byte : (s : List ℕ) (c : ℕ) (w : List ℕ) → is_special c ≡ false → IsRestOfToken Rest k (s ++ c ∷ []) w → IsRestOfToken Rest k s (c ∷ w)
  before-byte s c w plain h = (c ∷ h.0, back s h.0 c (c ∷ w) (then (c ∷ []) w (inr (refl, plain)) h.1))

  pub past-plain : (s cs w : List ℕ) → list_all (λ c. not (is_special c)) cs ≡ true → IsRestOfToken Rest k s (cs ++ w) → IsRestOfToken Rest k (s ++ cs) w
  past-plain s [] w plain h = subst (λ l. IsRestOfToken Rest k l w) (sym (append-nil s)) h
  past-plain s (c ∷ cs) w plain h =
      let p = and_parts _ _ plain in
      subst (λ l. IsRestOfToken Rest k l w) (append_assoc s (c ∷ []) cs) (past-plain (s ++ c ∷ []) cs w p.1 (past-byte s c (cs ++ w) (not-true _ p.0) h))

  pub before-plain : (s cs w : List ℕ) → list_all (λ c. not (is_special c)) cs ≡ true → IsRestOfToken Rest k (s ++ cs) w → IsRestOfToken Rest k s (cs ++ w)
  before-plain s [] w plain h = subst (λ l. IsRestOfToken Rest k l w) (append-nil s) h
  before-plain s (c ∷ cs) w plain h =
      let p = and_parts _ _ plain in
      before-byte s c (cs ++ w) (not-true _ p.0) (before-plain (s ++ c ∷ []) cs w p.1 (subst (λ l. IsRestOfToken Rest k l w) (sym (append_assoc s (c ∷ []) cs)) h))

  pub past-escape : (s : List ℕ) (l : ℕ) (w : List ℕ) → IsRestOfToken Rest k s (92 ∷ l ∷ w) → (b : ℕ) × (meant l ≡ Some b) × IsRestOfToken Rest k (s ++ b ∷ []) w
  past-escape s l w h = elim (begins s h.0 92 (l ∷ w) h.1) [
    | inl close ↦ absurd (false≢true (eq-eqb 92 34 close.0))
    | inr h' ↦ elim h' [
      | inl itself ↦ absurd (false≢true (sym itself.0))
      | inr escape ↦
          let e = escape.1 in
          let same : e.letter ≡ l = let is : l ∷ w ≡ e.letter ∷ e.rest = e.is in cc in
          let behind : e.rest ≡ w = let is : l ∷ w ≡ e.letter ∷ e.rest = e.is in cc in
          (e.byte, subst (λ x. meant x ≡ Some e.byte) same e.means, subst (IsRestOfToken Rest k (s ++ e.byte ∷ [])) behind e.on)
    ]
  ]

  pub before-escape : (s : List ℕ) (l b : ℕ) (w : List ℕ) → meant l ≡ Some b → IsRestOfToken Rest k (s ++ b ∷ []) w → IsRestOfToken Rest k s (92 ∷ l ∷ w)
  before-escape s l b w is h = (b ∷ h.0, back s h.0 b (92 ∷ l ∷ w) (then (92 ∷ l ∷ []) w (escaped-as l b is) h.1))

  unended : (s more : List ℕ) → Quoted s more [] → ⊥
  unended s [] h =
      let close = drop-exactly [] [] h in
      let is : [] ≡ 34 ∷ close.second = close.joined ∙ ap (λ x. x ++ close.second) close.is_first in
      absurd (cc)
  unended s (b ∷ more) h =
      let f = further s more b [] h in
      elim (written-as b f.first f.is_first) [
        | inl itself ↦ let is : [] ≡ b ∷ f.second = f.joined ∙ ap (λ x. x ++ f.second) itself.0 in absurd (cc)
        | inr escape ↦ let is : [] ≡ 92 ∷ escape.0 ∷ f.second = f.joined ∙ ap (λ x. x ++ f.second) escape.1 in absurd (cc)
      ]

  -- a token's text ends
  pub token-ends : (s : List ℕ) → IsRestOfToken Rest k s [] → ⊥
  token-ends s h = unended s h.0 h.1

  pub escape-ends : (s : List ℕ) → IsRestOfToken Rest k s (92 ∷ []) → ⊥
  escape-ends s h = elim (begins s h.0 92 [] h.1) [
    | inl close ↦ false≢true (eq-eqb 92 34 close.0)
    | inr h' ↦ elim h' [
      | inl itself ↦ false≢true (sym itself.0)
      | inr escape ↦ let is : [] ≡ escape.1.letter ∷ escape.1.rest = escape.1.is in absurd (cc)
    ]
  ]
