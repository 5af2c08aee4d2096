-- The words of a text, from one space to the next.
--     words-append          a text with a space in it has the words before it, and then those after it
--     words-behind, words-before      spaces around a text change no word
--     words-cut             the first word, and then those behind it
--     words-more            a text that doesn't begin with a space has a word
use Rattle.std.proofs.Common.{◌≡◌, ◌≢◌, ℕ, Bool, true, false, not, ◌==◌, List, [], ◌∷◌, ◌++◌, length, filter, cond, inl, inr, refl, sym, ◌∙◌, ap, append-nil, arith}
use Rattle.std.specs.List.{slice_split, onto_first, All}
use Rattle.std.proofs.lemmas.Bool.Decides.{nat_tests, Decides-eqb}
use Rattle.std.proofs.lemmas.List.Elements.{filter-append, All-cons, All-nil}
use Rattle.std.proofs.lemmas.List.Splits.{slice_split-cons_yes, slice_split-cons_no, slice_split_none}
use Rattle.script_lines.specs.Line.{IsSpaces, is_empty, words}
use Rattle.script_lines.specs.inner.Word.{IsBehindSpaces, IsBeforeSpaces, HasNoSpace, IsCutAtSpace, IsFirstWord}

-- ---- whether a text is empty
pub nothing-there : (xs : List ℕ) (b : Bool) → b ≡ (length xs == 0) → b ≡ true → xs ≡ []
nothing-there [] b told empty = refl
nothing-there (x ∷ xs) b told empty =
    let none : length (x ∷ xs) ≡ 0 = (Decides-eqb (length (x ∷ xs)) 0).0 (sym told ∙ empty) in
    absurd (omega arith)

pub something-there : (xs : List ℕ) (b : Bool) → b ≡ (length xs == 0) → b ≡ false → xs ≢ []
something-there xs b told full none = let empty : b ≡ true = told ∙ ap (λ l. length l == 0) none in absurd (cc)

-- ---- parts
abbrev is_space : ℕ → Bool
is_space b = b == 32

abbrev SomePart : List (List ℕ) → Type 0
SomePart parts = (first : List ℕ) × (more : List (List ℕ)) × (parts ≡ first ∷ more)

onto-first : (x : ℕ) (parts : List (List ℕ)) → SomePart (onto_first x parts)
onto-first x [] = (x ∷ [], [], refl)
onto-first x (part ∷ parts) = (x ∷ part, parts, refl)

some-part : (xs : List ℕ) → SomePart (slice_split is_space xs)
some-part [] = ([], [], refl)
some-part (x ∷ xs) = elim (is_space x) as (λ b. SomePart (cond b ([] ∷ slice_split is_space xs) (onto_first x (slice_split is_space xs)))) [
  | true ↦ ([], slice_split is_space xs, refl)
  | false ↦ onto-first x (slice_split is_space xs)
]

onto-append : (x : ℕ) (a b : List (List ℕ)) → SomePart a → onto_first x (a ++ b) ≡ onto_first x a ++ b
onto-append x [] b some = let no : [] ≡ some.0 ∷ some.1 = some.2 in absurd (cc)
onto-append x (part ∷ a) b some = refl

parts-step : (c : Bool) (x : ℕ) (s a b : List (List ℕ)) → SomePart a → s ≡ a ++ b → cond c ([] ∷ s) (onto_first x s) ≡ cond c ([] ∷ a) (onto_first x a) ++ b
parts-step true x s a b some is = ap (λ l. [] ∷ l) is
parts-step false x s a b some is = ap (onto_first x) is ∙ onto-append x a b some

parts-append : (xs ys : List ℕ) → slice_split is_space (xs ++ 32 ∷ ys) ≡ slice_split is_space xs ++ slice_split is_space ys
parts-append [] ys = slice_split-cons_yes is_space 32 ys refl
parts-append (x ∷ xs) ys =
    parts-step (is_space x) x (slice_split is_space (xs ++ 32 ∷ ys)) (slice_split is_space xs) (slice_split is_space ys) (some-part xs) (parts-append xs ys)

-- ---- words
abbrev is_word : List ℕ → Bool
is_word f = not (is_empty f)

pub words-none : words [] ≡ []
unfolding words
words-none = refl

pub words-append : (xs ys : List ℕ) → words (xs ++ 32 ∷ ys) ≡ words xs ++ words ys
unfolding words
words-append xs ys = ap (filter is_word) (parts-append xs ys) ∙ filter-append is_word (slice_split is_space xs) (slice_split is_space ys)

pub words-space : (ys : List ℕ) → words (32 ∷ ys) ≡ words ys
unfolding words
words-space ys = words-append [] ys

pub words-spaces : (s t : List ℕ) → IsSpaces s → words (s ++ t) ≡ words t
words-spaces [] t all = refl
words-spaces (b ∷ s) t all = ap (λ c. words (c ∷ (s ++ t))) all.0 ∙ words-space (s ++ t) ∙ words-spaces s t all.1

only-spaces : (s : List ℕ) → IsSpaces s → words s ≡ []
only-spaces s all = ap words (sym (append-nil s)) ∙ words-spaces s [] all ∙ words-none

pub words-behind : (text left : List ℕ) → IsBehindSpaces text left → words text ≡ words left
words-behind text left behind = ap words behind.is ∙ words-spaces behind.spaces left behind.all_spaces

before-spaces : (text s : List ℕ) → IsSpaces s → words (text ++ s) ≡ words text
before-spaces text [] all = ap words (append-nil text)
before-spaces text (b ∷ s) all =
    ap (λ c. words (text ++ c ∷ s)) all.0 ∙ words-append text s ∙ ap (λ l. words text ++ l) (only-spaces s all.1) ∙ append-nil (words text)

pub words-before : (text left : List ℕ) → IsBeforeSpaces text left → words text ≡ words left
words-before text left before = ap words before.is ∙ before-spaces left before.spaces before.all_spaces

-- ---- the first word
tests-none : (word : List ℕ) → HasNoSpace word → All (λ b. is_space b ≡ false) word
tests-none [] none = All-nil (λ b. is_space b ≡ false)
tests-none (b ∷ word) none =
    let n : b ≢ 32 = none.0 in
    All-cons (λ x. is_space x ≡ false) b word (grind (arith, nat_tests)) (tests-none word none.1)

one-word : (word : List ℕ) → word ≢ [] → filter is_word (word ∷ []) ≡ word ∷ []
one-word [] some = absurd (some refl)
one-word (b ∷ word) some = refl

words-one : (word : List ℕ) → word ≢ [] → HasNoSpace word → words word ≡ word ∷ []
unfolding words
words-one word some none = ap (filter is_word) (slice_split_none is_space word (tests-none word none)) ∙ one-word word some

pub words-cut : (left word behind : List ℕ) → IsCutAtSpace left word behind → word ≢ [] → words left ≡ word ∷ words behind
words-cut left word behind cut some =
    let one : words word ≡ word ∷ [] = words-one word some cut.no_space in
    elim cut.is [
      | inl is ↦ ap words is ∙ words-append word behind ∙ ap (λ l. l ++ words behind) one
      | inr is ↦ ap words is.0 ∙ one ∙ ap (λ l. word ∷ l) (sym words-none ∙ ap words (sym is.1))
    ]

pub cut-some : (left word behind : List ℕ) → IsCutAtSpace left word behind → left ≢ [] → ((t : List ℕ) → left ≢ 32 ∷ t) → word ≢ []
cut-some left word behind cut some no_space none = elim cut.is [
  | inl is ↦ no_space behind (is ∙ ap (λ l. l ++ 32 ∷ behind) none)
  | inr is ↦ some (is.0 ∙ none)
]

pub words-first : (text word behind : List ℕ) → IsFirstWord text word behind → words text ≡ word ∷ words behind
words-first text word behind first = words-behind text first.left first.trimmed ∙ words-cut first.left word behind first.cut first.not_empty

begun : (x : ℕ) (parts : List (List ℕ)) → filter is_word (onto_first x parts) ≢ []
begun x [] none = cc
begun x (part ∷ parts) none = cc

pub words-more : (left : List ℕ) → left ≢ [] → ((t : List ℕ) → left ≢ 32 ∷ t) → words left ≢ []
unfolding words
words-more [] some no_space = absurd (some refl)
words-more (b ∷ t) some no_space =
    let n : b ≢ 32 = λ is. no_space t (ap (λ x. x ∷ t) is) in
    let no : is_space b ≡ false = grind (arith, nat_tests) in
    λ none. begun b (slice_split is_space t) (sym (ap (filter is_word) (slice_split-cons_no is_space b t no)) ∙ none)
