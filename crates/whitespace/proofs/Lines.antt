-- The lines of a text that holds a newline, and its last one.
--     LastLine, last_line       a text by what stands before its last newline and what stands after; the parts of each text that holds one
--     lines-last                its lines
--     after_last-last           what stands after its last newline
use Rattle.std.specs.Prelude.{◌≡◌, ℕ, suc, ◌+◌, ◌-◌, ◌<◌, ◌≤◌, Bool, true, false, cond, not, ◌||◌, List, [], ◌∷◌, ◌++◌, length, drop, All, refl}
use Rattle.std.specs.List.{slice_split, onto_first, list_any, suffix_len, after_last, slice_index_or}
use Rattle.std.proofs.Common.{ap, ◌∙◌, arith}
use Rattle.std.proofs.lemmas.Bool.{cases_Bool, or_parts, eqb-true}
use Rattle.std.proofs.lemmas.List.{length-append, get_or-append_right}
use Rattle.std.proofs.lemmas.List.Elements.{All-nil, All-cons}
use Rattle.std.proofs.lemmas.List.Splits.{slice_split_none}
use Rattle.std.proofs.lemmas.List.Sums.{suffix_len_is}
use Rattle.std.proofs.Math.Seq.{drop-append-add, get_or-append_seam}
use mathlib.Core.Logic.{inl, inr}
use Rattle.whitespace.specs.Level.{newline, is_newline, has_newline}
use Rattle.whitespace.specs.Indentation.{lines}

-- ---- the parts of a list
module _ {X : Type 0} (p : X → Bool) where
  pub none_pass : (xs : List X) → list_any p xs ≡ false → All (λ x. p x ≡ false) xs
  none_pass [] none = All-nil (λ x. p x ≡ false)
  none_pass (x ∷ xs) none =
      let parts = or_parts (p x) (list_any p xs) none in
      All-cons (λ x. p x ≡ false) x xs parts.0 (none_pass xs parts.1)

  -- there is a first part
  pub first_part : (xs : List X) → (first : List X) × (rest : List (List X)) × (slice_split p xs ≡ first ∷ rest)
  first_part [] = ([], [], refl)
  first_part (x ∷ xs) =
      let further : (first : List X) × (rest : List (List X)) × (slice_split p xs ≡ first ∷ rest) = first_part xs in
      elim (p x) as (λ b. (first : List X) × (rest : List (List X)) × (cond b ([] ∷ slice_split p xs) (onto_first x (slice_split p xs)) ≡ first ∷ rest)) [
        | true ↦ ([], slice_split p xs, refl)
        | false ↦ (x ∷ further.0, further.1, ap (onto_first x) further.2)
      ]

  onto_first-append : (x : X) (parts more : List (List X)) → (first : List X) × (rest : List (List X)) × (parts ≡ first ∷ rest) → onto_first x (parts ++ more) ≡ onto_first x parts ++ more
  onto_first-append x [] more view = cc
  onto_first-append x (part ∷ parts) more view = refl

  -- the parts on both sides of an item at which the list is cut
  pub slice_split-cut : (xs : List X) (y : X) (ys : List X) → p y ≡ true → slice_split p (xs ++ y ∷ ys) ≡ slice_split p xs ++ slice_split p ys
  slice_split-cut [] y ys cut = rw cut refl
  slice_split-cut (x ∷ xs) y ys cut =
      elim (p x) as (λ b. cond b ([] ∷ slice_split p (xs ++ y ∷ ys)) (onto_first x (slice_split p (xs ++ y ∷ ys))) ≡ cond b ([] ∷ slice_split p xs) (onto_first x (slice_split p xs)) ++ slice_split p ys) [
        | true ↦ ap (λ parts. [] ∷ parts) (slice_split-cut xs y ys cut)
        | false ↦ ap (onto_first x) (slice_split-cut xs y ys cut) ∙ onto_first-append x (slice_split p xs) (slice_split p ys) (first_part xs)
      ]

-- ---- the last newline
pub record LastLine (s : List ℕ) : Type 0 where
  pub before : List ℕ
  pub last : List ℕ
  pub is : s ≡ before ++ newline ∷ last
  pub none : list_any is_newline last ≡ false

pub last_line : (s : List ℕ) → has_newline s ≡ true → LastLine s
last_line [] has = cc
last_line (b ∷ s) has =
    elim (cases_Bool (has_newline s)) [
      | inl more ↦
          let v = last_line s more in
          record { before = b ∷ v.before; last = v.last; is = ap (λ t. b ∷ t) v.is; none = v.none }
      | inr none ↦
          let here : is_newline b ≡ true = only_here (is_newline b) (has_newline s) has none in
          record { before = []; last = s; is = ap (λ c. c ∷ s) (eqb-true b newline here); none = none }
    ]
  where
    only_here : (c d : Bool) → (c || d) ≡ true → d ≡ false → c ≡ true
    only_here true d h none = refl
    only_here false d h none = cc

pub lines-last : (before last : List ℕ) → list_any is_newline last ≡ false → lines (before ++ newline ∷ last) ≡ lines before ++ last ∷ []
lines-last before last none =
    slice_split-cut is_newline before newline last refl ∙ ap (λ parts. lines before ++ parts) (slice_split_none is_newline last (none_pass is_newline last none))

-- ---- what stands after it
module _ (before last : List ℕ) where
  abbrev whole : List ℕ
  whole = before ++ newline ∷ last

  after : (k : ℕ) → length before + 1 ≤ k → slice_index_or whole k 0 ≡ slice_index_or last (k - (length before + 1)) 0
  after k from =
      let next : k - length before ≡ suc (k - (length before + 1)) = omega arith in
      get_or-append_right before (newline ∷ last) (length before) k 0 refl (omega arith) ∙ ap (λ i. slice_index_or (newline ∷ last) i 0) next

  at_cut : slice_index_or whole (length before + 1 - 1) 0 ≡ newline
  at_cut =
      let same : length before + 1 - 1 ≡ length before = omega arith in
      ap (λ i. slice_index_or whole i 0) same ∙ get_or-append_seam before newline last 0

  size : length whole ≡ length before + suc (length last)
  size = length-append before (newline ∷ last)

  abbrev is_other : ℕ → Bool
  is_other b = not (is_newline b)

  suffix : list_any is_newline last ≡ false → suffix_len is_other whole ≡ length whole - (length before + 1)
  suffix none =
      let within : length before + 1 ≤ length whole = omega (arith, size) in
      suffix_len_is is_other whole (length before + 1) 0 within (λ k from below. other k from below) (λ _. ap is_other at_cut)
    where
      other : (k : ℕ) → length before + 1 ≤ k → k < length whole → is_other (slice_index_or whole k 0) ≡ true
      other k from below =
          let inside : k - (length before + 1) < length last = omega (arith, size) in
          ap is_other (after k from) ∙ ap not (none_pass is_newline last none (k - (length before + 1)) 0 inside)

  pub after_last-last : list_any is_newline last ≡ false → after_last is_newline whole ≡ last
  after_last-last none =
      let rest : length whole - suffix_len is_other whole ≡ length before + 1 = omega (arith, size, suffix none) in
      ap (λ n. drop n whole) rest ∙ drop-append-add before (newline ∷ last) 1
