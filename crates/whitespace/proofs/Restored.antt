-- Texts and trees that were indented and dedented again.
use Rattle.std.specs.Prelude.{◌≡◌, ℕ, suc, ◌+◌, ◌-◌, ◌*◌, ◌==◌, Bool, true, false, cond, nat_eq, List, [], ◌∷◌, ◌++◌, length, take, drop, replicate, map, All, IsTrue, refl}
use Rattle.std.specs.List.{after_last, list_any, list_all, starts_with, join_with_byte, AllByRecursion}
use Rattle.std.proofs.Common.{ap, ap₂, sym, ◌∙◌, subst, arith, append_assoc}
use Rattle.std.proofs.lemmas.Bool.{cases_Bool, and_parts, cond-true, cond-false, or_from, eqb-true}
use Rattle.std.proofs.lemmas.List.{length-append, length-replicate, replicate-append-replicate, map-append}
use Rattle.std.proofs.lemmas.List.Elements.{All-head, All-tail, All-replicate, All-same, recursion_from_All}
use Rattle.std.proofs.lemmas.List.Folds.{list_any-append, list_any_none}
use Rattle.std.proofs.lemmas.List.Splits.{slice_split_none, join_with_byte-slice_split}
use Rattle.std.proofs.Math.Seq.{take-append_seam, drop-append_seam}
use mathlib.Core.Logic.{inl, inr}
use Rattle.cst_core.specs.Tree.{Forest, Token, Node, end, more, SyntaxTree, tokens, forest_tokens}
use Rattle.cst_core.specs.Kinds.{WHITESPACE}
use Rattle.whitespace.specs.Level.{newline, space, is_newline, has_newline, level_text}
use Rattle.whitespace.specs.Indentation.{lines, dedented_line, dedented_lines, indented_text, dedented_text, forest_with_texts, indented, dedented}
use Rattle.whitespace.specs.Restorable.{lines_between, IsRestorable, HasRestorableTexts}
use Rattle.edit_map.proofs.Copies.{same_path-from}
use Rattle.whitespace.proofs.Lines.{LastLine, last_line, first_part, none_pass, lines-last, after_last-last}

abbrev is_space : ℕ → Bool
is_space b = b == space

-- ---- a line of spaces
only_spaces : (s : List ℕ) → list_all is_space s ≡ true → s ≡ replicate (length s) space
only_spaces [] all = refl
only_spaces (b ∷ s) all =
    let parts = and_parts (is_space b) (list_all is_space s) all in
    ap₂ (λ c t. c ∷ t) (eqb-true b space parts.0) (only_spaces s parts.1)

-- spaces after it may as well stand before it
turned : (l : ℕ) (s : List ℕ) → list_all is_space s ≡ true → s ++ level_text l ≡ level_text l ++ s
turned l s all =
    let spaces = only_spaces s all in
    let sum : length s + 4 * l ≡ 4 * l + length s = omega arith in
    ap (λ t. t ++ level_text l) spaces ∙ replicate-append-replicate (length s) (4 * l) space ∙ ap (λ n. replicate n space) sum ∙ sym (replicate-append-replicate (4 * l) (length s) space) ∙ sym (ap (λ t. level_text l ++ t) spaces)

line_restored : (l : ℕ) (s : List ℕ) → list_all is_space s ≡ true → dedented_line l (s ++ level_text l) ≡ s
line_restored l s all =
    let front : starts_with nat_eq (level_text l ++ s) (level_text l) ≡ true = same_path-from (level_text l) (take (length (level_text l)) (level_text l ++ s)) (sym (take-append_seam (level_text l) s)) in
    let rest : drop (4 * l) (level_text l ++ s) ≡ s = ap (λ n. drop n (level_text l ++ s)) (sym (length-replicate (4 * l) space)) ∙ drop-append_seam (level_text l) s in
    ap (dedented_line l) (turned l s all) ∙ cond-true _ _ _ front ∙ rest

abbrev IsLessDeep : ℕ → List ℕ → Type 0
IsLessDeep l line = starts_with nat_eq line (level_text l) ≡ false

lines_kept : (l : ℕ) (ls : List (List ℕ)) → All (IsLessDeep l) ls → map (dedented_line l) ls ≡ ls
lines_kept l [] all = refl
lines_kept l (line ∷ ls) all =
    ap₂ (λ s ss. s ∷ ss) (cond-false _ _ _ (All-head (IsLessDeep l) line ls all)) (lines_kept l ls (All-tail (IsLessDeep l) line ls all))

-- ---- a text, by its last line
no_newline : (l : ℕ) (s : List ℕ) → list_any is_newline s ≡ false → list_any is_newline (s ++ level_text l) ≡ false
no_newline l s none =
    list_any-append is_newline s (level_text l) ∙ or_from _ _ none (list_any_none is_newline (level_text l) (All-replicate (λ b. is_newline b ≡ false) (4 * l) space refl))

between-last : (first : List ℕ) (rest : List (List ℕ)) (last : List ℕ) → take (length ((first ∷ rest) ++ last ∷ []) - 2) (drop 1 ((first ∷ rest) ++ last ∷ [])) ≡ rest
between-last first rest last =
    let size : suc (length (rest ++ last ∷ [])) - 2 ≡ length rest = omega (arith, length-append rest (last ∷ [])) in
    ap (λ n. take n (rest ++ last ∷ [])) size ∙ take-append_seam rest (last ∷ [])

by_last : (l : ℕ) (before last : List ℕ) → list_any is_newline last ≡ false → list_all is_space last ≡ true → All (IsLessDeep l) (lines_between (before ++ newline ∷ last)) → dedented_text l ((before ++ newline ∷ last) ++ level_text l) ≡ before ++ newline ∷ last
by_last l before last none spaces less_deep =
    let view = first_part is_newline before in
    let old : lines (before ++ newline ∷ last) ≡ (view.0 ∷ view.1) ++ last ∷ [] = lines-last before last none ∙ ap (λ ls. ls ++ last ∷ []) view.2 in
    let new : lines ((before ++ newline ∷ last) ++ level_text l) ≡ (view.0 ∷ view.1) ++ (last ++ level_text l) ∷ [] = ap lines (append_assoc before (newline ∷ last) (level_text l)) ∙ lines-last before (last ++ level_text l) (no_newline l last none) ∙ ap (λ ls. ls ++ (last ++ level_text l) ∷ []) view.2 in
    let between : lines_between (before ++ newline ∷ last) ≡ view.1 = ap (λ ls. take (length ls - 2) (drop 1 ls)) old ∙ between-last view.0 view.1 last in
    let rest : map (dedented_line l) (view.1 ++ (last ++ level_text l) ∷ []) ≡ view.1 ++ last ∷ [] = map-append (dedented_line l) view.1 ((last ++ level_text l) ∷ []) ∙ ap₂ (λ ls s. ls ++ s ∷ []) (lines_kept l view.1 (All-same (IsLessDeep l) _ _ (sym between) less_deep)) (line_restored l last spaces) in
    ap (λ ls. join_with_byte newline (dedented_lines l ls)) new ∙ ap (λ ls. join_with_byte newline (view.0 ∷ ls)) rest ∙ ap (join_with_byte newline) (sym old) ∙ join_with_byte-slice_split newline (before ++ newline ∷ last)

at_last : (l : ℕ) (s : List ℕ) → LastLine s → IsRestorable l s → dedented_text l (s ++ level_text l) ≡ s
at_last l s v restores =
    let spaces : list_all is_space v.last ≡ true = ap (list_all is_space) (sym (ap (after_last is_newline) v.is ∙ after_last-last v.before v.last v.none)) ∙ restores.only_spaces in
    subst (λ t. dedented_text l (t ++ level_text l) ≡ t) (sym v.is) (by_last l v.before v.last v.none spaces (All-same (IsLessDeep l) _ _ (ap lines_between (sym v.is)) restores.less_deep))

pub text_restored : (l : ℕ) (s : List ℕ) → (has_newline s ≡ true → IsRestorable l s) → dedented_text l (indented_text l s) ≡ s
text_restored l s restores =
    elim (cases_Bool (has_newline s)) [
      | inl has ↦ ap (dedented_text l) (cond-true _ _ _ has) ∙ at_last l s (last_line s has) (restores has)
      | inr none ↦ ap (dedented_text l) (cond-false _ _ _ none) ∙ ap (λ ls. join_with_byte newline (dedented_lines l ls)) (slice_split_none is_newline s (none_pass is_newline s none))
    ]

-- ---- a tree
module _ (l : ℕ) where
  abbrev Restores : ℕ × List ℕ → Type 0
  Restores token = token.0 ≡ WHITESPACE.0 → IsTrue (has_newline token.1) → IsRestorable l token.1

  abbrev in_kind : (List ℕ → List ℕ) → ℕ → List ℕ → List ℕ
  in_kind h k s = cond (k == WHITESPACE.0) (h s) s

  token_restored : (k : ℕ) (s : List ℕ) → Restores (k, s) → in_kind (dedented_text l) k (in_kind (indented_text l) k s) ≡ s
  token_restored k s restores =
      elim (cases_Bool (k == WHITESPACE.0)) [
        | inl is ↦ ap₂ (λ b t. cond b (dedented_text l t) t) is (ap (λ b. cond b (indented_text l s) s) is) ∙ text_restored l s (restores (eqb-true k WHITESPACE.0 is))
        | inr other ↦ ap₂ (λ b t. cond b (dedented_text l t) t) other (ap (λ b. cond b (indented_text l s) s) other)
      ]

  all_split : (P : ℕ × List ℕ → Type 0) (xs ys : List (ℕ × List ℕ)) → AllByRecursion P (xs ++ ys) → AllByRecursion P xs × AllByRecursion P ys
  all_split P [] ys all = (tt, all)
  all_split P (x ∷ xs) ys all =
      let rest = all_split P xs ys all.1 in
      ((all.0, rest.0), rest.1)

  mutual
    restored : (t : SyntaxTree) → AllByRecursion Restores (tokens t) → dedented l (indented l t) ≡ t
    restored (Token k s) all = ap (Token k) (token_restored k s all.0)
    restored (Node k f) all = ap (Node k) (forest_restored f all)

    forest_restored : (f : Forest ℕ) → AllByRecursion Restores (forest_tokens f) → forest_with_texts (in_kind (dedented_text l)) (forest_with_texts (in_kind (indented_text l)) f) ≡ f
    forest_restored end all = refl
    forest_restored (more t f) all =
        let parts = all_split Restores (tokens t) (forest_tokens f) all in
        ap₂ more (restored t parts.0) (forest_restored f parts.1)

  pub tree_restored : (t : SyntaxTree) → HasRestorableTexts l t → dedented l (indented l t) ≡ t
  tree_restored t all = restored t (recursion_from_All Restores (tokens t) all)
