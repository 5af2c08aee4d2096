-- The first word of a text, which the text settles.
--     front-word       a text that is put together of spaces, a word, and more behind a space
--     same-word, same-behind-word      there is one first word, and one text behind it
--     with-spaces      spaces at the end of a text change no first word
use Rattle.std.proofs.Common.{◌≡◌, ◌≢◌, ◌⊎◌, ℕ, List, [], ◌∷◌, ◌++◌, inl, inr, refl, sym, ◌∙◌, ap, append_assoc, append-nil}
use Rattle.script_lines.specs.Line.{IsSpaces}
use Rattle.script_lines.specs.inner.Word.{IsBeforeSpaces, IsCutAtSpace, IsFirstWord, HasNoSpace}
use Rattle.script_lines.proofs.Ends.{BeginsNot, same-behind}

pub front-word : (before word behind : List ℕ) → IsSpaces before → HasNoSpace word → word ≢ [] → IsFirstWord (before ++ (word ++ 32 ∷ behind)) word behind
front-word before word behind spaces none some = record {
  left = word ++ 32 ∷ behind;
  trimmed = record { spaces = before; is = refl; all_spaces = spaces };
  cut = record { is = inl refl; no_space = none };
  not_empty = some;
}

-- what a cut text is, in one form: the word, and what is behind it with its space
abbrev Behind : List ℕ → List ℕ → Type 0
Behind rest behind = (rest ≡ 32 ∷ behind) ⊎ ((rest ≡ []) × (behind ≡ []))

cut-form : (left word behind : List ℕ) → IsCutAtSpace left word behind → (rest : List ℕ) × (left ≡ word ++ rest) × Behind rest behind
cut-form left word behind cut = elim cut.is [
  | inl is ↦ (32 ∷ behind, is, inl refl)
  | inr is ↦ ([], is.0 ∙ sym (append-nil word), inr (refl, is.1))
]

same-cut : (v w r s b d : List ℕ) → HasNoSpace v → HasNoSpace w → Behind r b → Behind s d → v ++ r ≡ w ++ s → (v ≡ w) × (b ≡ d)
same-cut [] [] r s b d first second behind other is = elim behind [
  | inl p ↦ elim other [
    | inl q ↦ let e : 32 ∷ b ≡ 32 ∷ d = sym p ∙ is ∙ q in (refl, let f : b ≡ d = cc in f)
    | inr q ↦ let no : 32 ∷ b ≡ [] = sym p ∙ is ∙ q.0 in absurd (cc)
  ]
  | inr p ↦ elim other [
    | inl q ↦ let no : [] ≡ 32 ∷ d = sym p.0 ∙ is ∙ q in absurd (cc)
    | inr q ↦ (refl, p.1 ∙ sym q.1)
  ]
]
same-cut [] (c ∷ w) r s b d first second behind other is = elim behind [
  | inl p ↦ let e : 32 ∷ b ≡ c ∷ (w ++ s) = sym p ∙ is in let here : c ≡ 32 = cc in absurd (second.0 here)
  | inr p ↦ let no : [] ≡ c ∷ (w ++ s) = sym p.0 ∙ is in absurd (cc)
]
same-cut (c ∷ v) [] r s b d first second behind other is = elim other [
  | inl q ↦ let e : c ∷ (v ++ r) ≡ 32 ∷ d = is ∙ q in let here : c ≡ 32 = cc in absurd (first.0 here)
  | inr q ↦ let no : c ∷ (v ++ r) ≡ [] = is ∙ q.0 in absurd (cc)
]
same-cut (c ∷ v) (e ∷ w) r s b d first second behind other is =
    let here : c ≡ e = cc in
    let rest : v ++ r ≡ w ++ s = cc in
    let same = same-cut v w r s b d first.1 second.1 behind other rest in
    (ap (λ l. c ∷ l) same.0 ∙ ap (λ x. x ∷ w) here, same.1)

begins-not : (left word behind : List ℕ) → IsCutAtSpace left word behind → word ≢ [] → BeginsNot left
begins-not left [] behind cut some t is = some refl
begins-not left (c ∷ word) behind cut some t is =
    let form = cut-form left (c ∷ word) behind cut in
    let e : c ∷ (word ++ form.0) ≡ 32 ∷ t = sym form.1 ∙ is in
    let here : c ≡ 32 = cc in
    cut.no_space.0 here

pub same-word : (text v b w d : List ℕ) → IsFirstWord text v b → IsFirstWord text w d → (v ≡ w) × (b ≡ d)
same-word text v b w d first second =
    let one = cut-form first.left v b first.cut in
    let two = cut-form second.left w d second.cut in
    let left : first.left ≡ second.left = same-behind first.trimmed.spaces second.trimmed.spaces first.left second.left first.trimmed.all_spaces second.trimmed.all_spaces (begins-not first.left v b first.cut first.not_empty) (begins-not second.left w d second.cut second.not_empty) (sym first.trimmed.is ∙ second.trimmed.is) in
    same-cut v w one.0 two.0 b d first.cut.no_space second.cut.no_space one.2 two.2 (sym one.1 ∙ left ∙ two.1)

abbrev pub WithSpaces : List ℕ → List ℕ → List ℕ → Type 0
WithSpaces text word behind = (more : List ℕ) × IsFirstWord text word more × IsBeforeSpaces more behind

cut-spaces : (left word behind s : List ℕ) → IsCutAtSpace left word behind → IsSpaces s → (more : List ℕ) × IsCutAtSpace (left ++ s) word more × IsBeforeSpaces more behind
cut-spaces left word behind s cut all = elim cut.is [
  | inl is ↦ (behind ++ s, record { is = inl (ap (λ l. l ++ s) is ∙ append_assoc word (32 ∷ behind) s); no_space = cut.no_space }, record { spaces = s; is = refl; all_spaces = all })
  | inr is ↦ at-end left word behind s cut is.0 is.1 all
] where
  at-end : (left word behind s : List ℕ) → IsCutAtSpace left word behind → left ≡ word → behind ≡ [] → IsSpaces s → (more : List ℕ) × IsCutAtSpace (left ++ s) word more × IsBeforeSpaces more behind
  at-end left word behind [] cut is none all = ([], record { is = inr (append-nil left ∙ is, refl); no_space = cut.no_space }, record { spaces = []; is = sym none ∙ sym (append-nil behind); all_spaces = tt })
  at-end left word behind (c ∷ s) cut is none all = (s, record { is = inl (ap (λ l. l ++ c ∷ s) is ∙ ap (λ d. word ++ d ∷ s) all.0); no_space = cut.no_space }, record { spaces = s; is = ap (λ l. l ++ s) (sym none); all_spaces = all.1 })

pub with-spaces : (text word behind s : List ℕ) → IsFirstWord text word behind → IsSpaces s → WithSpaces (text ++ s) word behind
with-spaces text word behind s first all =
    let cut = cut-spaces first.left word behind s first.cut all in (
      cut.0,
      record {
        left = first.left ++ s;
        trimmed = record { spaces = first.trimmed.spaces; is = ap (λ l. l ++ s) first.trimmed.is ∙ append_assoc first.trimmed.spaces first.left s; all_spaces = first.trimmed.all_spaces };
        cut = cut.1;
        not_empty = first.not_empty;
      },
      cut.2,
    )
