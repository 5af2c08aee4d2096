-- Texts dedented line by line.
--     stripped, kept               a line that begins with the spaces of a level, and one that does not
--     text_after, line_more       what stands after a newline is text; one line more
--     after                       the lines of what stands after a newline, dedented and joined
--     dedented_at, dedented_none   a text cut at its first newline; one without a newline
--     after_at, after_none       the same of what stands after a newline
use Rattle.std.specs.Prelude.{◌≡◌, ℕ, ◌+◌, ◌*◌, ◌<◌, ◌≢◌, true, false, nat_eq, List, [], ◌∷◌, ◌++◌, length, take, drop, map, slice_index, None, refl}
use Rattle.std.specs.List.{starts_with, join_with_byte, All}
use Rattle.std.specs.Str.{IsUtf8}
use Rattle.std.specs.Str.Pattern.{FindsTextPrefix, StripsPrefix}
use Rattle.std.proofs.Common.{ap, sym, ◌∙◌, subst, arith, append_assoc}
use Rattle.std.proofs.lemmas.Bool.{cases_Bool, cond-true, cond-false, eqb-true}
use Rattle.std.proofs.lemmas.List.{length-replicate, length-append, take-append-drop}
use Rattle.std.proofs.lemmas.List.Elements.{All-from_get_or}
use Rattle.std.proofs.lemmas.List.Splits.{slice_split_at, slice_split_none}
use Rattle.std.proofs.Math.Seq.{take-append_seam, drop-append-add, get_or-append_seam}
use Rattle.std.proofs.lemmas.Str.{IsUtf8-drop, IsCharBoundary-after_ascii}
use mathlib.Core.Logic.{inl, inr}
use Rattle.whitespace.specs.Level.{newline, space, is_newline, level_text}
use Rattle.whitespace.specs.Indentation.{lines, dedented_line, dedented_lines, dedented_text}
use Rattle.edit_map.proofs.Copies.{same_path-from, same_path-true}
use Rattle.whitespace.proofs.Lines.{first_part}

-- ---- one line
module _ (l : ℕ) (line : List ℕ) where
  pub stripped : (spaces rest : List ℕ) → spaces ≡ level_text l → StripsPrefix (FindsTextPrefix spaces) line rest → rest ≡ dedented_line l line
  stripped spaces rest is strips =
      let size : strips.0 ≡ 4 * l = strips.1.0 ∙ ap length is ∙ length-replicate (4 * l) space in
      let begins : take (length spaces) line ≡ spaces = ap (take (length spaces)) strips.1.1 ∙ take-append_seam spaces (drop strips.0 line) in
      let test : starts_with nat_eq line (level_text l) ≡ true = subst (λ p. starts_with nat_eq line p ≡ true) is (same_path-from spaces (take (length spaces) line) (sym begins)) in
      strips.2 ∙ ap (λ k. drop k line) size ∙ sym (cond-true _ _ _ test)

  pub kept : (spaces : List ℕ) → spaces ≡ level_text l → FindsTextPrefix spaces line None → line ≡ dedented_line l line
  kept spaces is lacks =
      elim (cases_Bool (starts_with nat_eq line (level_text l))) [
        | inl begins ↦ absurd (lacks (drop (length spaces) line) (whole (same_path-true spaces (take (length spaces) line) (subst (λ p. starts_with nat_eq line p ≡ true) (sym is) begins))))
        | inr other ↦ sym (cond-false _ _ _ other)
      ]
    where
      whole : spaces ≡ take (length spaces) line → line ≡ spaces ++ drop (length spaces) line
      whole same = sym (take-append-drop (length spaces) line) ∙ ap (λ t. t ++ drop (length spaces) line) (sym same)

-- ---- the lines of a text
-- what stands after a newline is text
pub text_after : (s first rest : List ℕ) → IsUtf8 s → s ≡ first ++ newline ∷ rest → IsUtf8 rest
text_after s first rest text is =
    let size : length first < length s = subst (λ n. length first < n) (sym (ap length is ∙ length-append first (newline ∷ rest))) (omega arith) in
    let here : slice_index s (length first) ≡ newline = ap (λ t. slice_index t (length first)) is ∙ get_or-append_seam first newline rest 0 in
    let cut : IsUtf8 (drop (length first + 1) s) = IsUtf8-drop s (length first + 1) text (IsCharBoundary-after_ascii s (length first) text size (omega arith)) in
    subst IsUtf8 (ap (drop (length first + 1)) is ∙ drop-append-add first (newline ∷ rest) 1) cut

-- one line more
pub line_more : (out more line rest lines : List ℕ) → more ≡ out ++ newline ∷ line → lines ≡ line ++ newline ∷ rest → more ++ newline ∷ rest ≡ out ++ newline ∷ lines
line_more out more line rest lines is all = ap (λ t. t ++ newline ∷ rest) is ∙ append_assoc out (newline ∷ line) (newline ∷ rest) ∙ sym (ap (λ t. out ++ newline ∷ t) all)

other_bytes : (s : List ℕ) → ((i : ℕ) → i < length s → slice_index s i ≢ newline) → All (λ b. is_newline b ≡ false) s
other_bytes s other = All-from_get_or (λ b. is_newline b ≡ false) s 0 (λ i below. isnt i below)
  where
    isnt : (i : ℕ) → i < length s → is_newline (slice_index s i) ≡ false
    isnt i below =
        elim (cases_Bool (is_newline (slice_index s i))) [
          | inl is ↦ absurd (other i below (eqb-true _ newline is))
          | inr no_newline ↦ no_newline
        ]

joined-more : (first : List ℕ) (parts : List (List ℕ)) → (p : List ℕ) × (ps : List (List ℕ)) × (parts ≡ p ∷ ps) → join_with_byte newline (first ∷ parts) ≡ first ++ newline ∷ join_with_byte newline parts
joined-more first [] view = cc
joined-more first (p ∷ ps) view = refl

module _ (l : ℕ) where
  abbrev pub after : List ℕ → List ℕ
  after s = join_with_byte newline (map (dedented_line l) (lines s))

  some_lines : (s : List ℕ) → (p : List ℕ) × (ps : List (List ℕ)) × (map (dedented_line l) (lines s) ≡ p ∷ ps)
  some_lines s =
      let view = first_part is_newline s in
      (dedented_line l view.0, map (dedented_line l) view.1, ap (map (dedented_line l)) view.2)

  module _ (s first rest : List ℕ) (is : s ≡ first ++ newline ∷ rest) (other : (i : ℕ) → i < length first → slice_index first i ≢ newline) where
    cut : lines s ≡ first ∷ lines rest
    cut = ap lines is ∙ slice_split_at is_newline first newline rest (other_bytes first other) refl

    pub dedented_at : dedented_text l s ≡ first ++ newline ∷ after rest
    dedented_at = ap (λ ls. join_with_byte newline (dedented_lines l ls)) cut ∙ joined-more first (map (dedented_line l) (lines rest)) (some_lines rest)

    pub after_at : after s ≡ dedented_line l first ++ newline ∷ after rest
    after_at = ap (λ ls. join_with_byte newline (map (dedented_line l) ls)) cut ∙ joined-more (dedented_line l first) (map (dedented_line l) (lines rest)) (some_lines rest)

  module _ (s : List ℕ) (other : (i : ℕ) → i < length s → slice_index s i ≢ newline) where
    whole : lines s ≡ s ∷ []
    whole = slice_split_none is_newline s (other_bytes s other)

    pub dedented_none : dedented_text l s ≡ s
    dedented_none = ap (λ ls. join_with_byte newline (dedented_lines l ls)) whole

    pub after_none : after s ≡ dedented_line l s
    after_none = ap (λ ls. join_with_byte newline (map (dedented_line l) ls)) whole
