-- Worked examples of long texts: a tree with a text of the greatest length, and what becomes too long.
use Rattle.std.specs.Prelude.{◌≡◌, ℕ, zero, suc, ◌+◌, ◌^◌, List, [], ◌∷◌, ◌++◌, codes, flat_map, length, Some, refl}
use Rattle.std.proofs.Common.{ap, ap₂, sym, ◌∙◌, arith}
use Rattle.std.proofs.lemmas.List.{length-append, append-nil}
use Rattle.cst_core.specs.Path.{Path}
use Rattle.cst_core.specs.Tree.{SyntaxTree, forest, text, forest_text, text_length}
use Rattle.cst_core.specs.Element.{Element}
use Rattle.cst_core.specs.SyntaxElement.{syntax_of}
use Rattle.cst_core.specs.Kinds.{IDENT, LITERAL, SOURCE_FILE}
use Rattle.cst_core.specs.declared.element.SyntaxElement.TheVariants.{Node as node_value, Token as token_value}
use Rattle.edit_map.proofs.RowTrees.{token, branch}
use Rattle.edit_map.proofs.Rows.{element_of_tree, R}
use Rattle.edit_change.specs.NewTree.{OriginTree, new_tree}
use Rattle.edit_change.specs.Places.{TextIsTooLong}
use Rattle.edit_change.specs.declared.change.Change.{Change}
use Rattle.edit_change.specs.declared.change.Change.TheVariants.{Insert, Replace, ReplaceAll}
use Rattle.edit_plan.proofs.RowChanges.{first_in, no_places}
use Rattle.edit_plan.proofs.Unowned.{text-unowned}

-- 2^k bytes: a node that holds the smaller one twice
unfoldable pub doubled : ℕ → SyntaxTree
doubled zero = token IDENT (codes "a")
doubled (suc k) = branch LITERAL (doubled k ∷ doubled k ∷ [])

-- those from this one down to the token
unfoldable pub falling : ℕ → List SyntaxTree
falling zero = doubled zero ∷ []
falling (suc k) = doubled (suc k) ∷ falling k

unfoldable pub long : ℕ → SyntaxTree
long k = branch SOURCE_FILE (falling k)

length-doubled : (k : ℕ) → text_length (doubled k) ≡ 2 ^ k
unfolding doubled
length-doubled zero = refl
length-doubled (suc k) =
    length-append (text (doubled k)) (text (doubled k) ++ []) ∙ ap₂ (λ m n. m + n) (length-doubled k) (ap length (append-nil (text (doubled k))) ∙ length-doubled k) ∙ twice k
  where
    twice : (k : ℕ) → 2 ^ k + 2 ^ k ≡ 2 ^ suc k
    twice k = omega arith

-- one byte less than the next one
length-falling : (k : ℕ) → length (forest_text (forest (falling k))) + 1 ≡ 2 ^ suc k
unfolding falling doubled
length-falling zero = refl
length-falling (suc k) =
    let both : length (text (doubled (suc k)) ++ forest_text (forest (falling k))) ≡ length (text (doubled (suc k))) + length (forest_text (forest (falling k))) = length-append (text (doubled (suc k))) (forest_text (forest (falling k))) in
    let first : length (text (doubled (suc k))) ≡ 2 ^ suc k = length-doubled (suc k) in
    let rest : length (forest_text (forest (falling k))) + 1 ≡ 2 ^ suc k = length-falling k in
    ap (λ n. n + 1) (both ∙ ap (λ n. n + length (forest_text (forest (falling k)))) first) ∙ sum (2 ^ suc k) (length (forest_text (forest (falling k)))) rest ∙ twice (suc k)
  where
    sum : (m n : ℕ) → n + 1 ≡ m → m + n + 1 ≡ m + m
    sum m n e = omega arith

    twice : (k : ℕ) → 2 ^ k + 2 ^ k ≡ 2 ^ suc k
    twice k = omega arith

pub longest : text_length (long 31) ≡ 4294967295
unfolding long
longest = omega (arith, length-falling 31)

-- ---- two payloads of such a text
abbrev payload_of_tree : SyntaxTree → Element
payload_of_tree t = element_of_tree 8 t []

abbrev changes_two : SyntaxTree → List Change
changes_two t = Replace (syntax_of (R (1 ∷ []))) (Some (node_value (payload_of_tree t))) ∷ Replace (syntax_of (R (4 ∷ []))) (Some (node_value (payload_of_tree t))) ∷ []

with_two : (s : List ℕ) → suc (length (s ++ [] ++ [] ++ 44 ∷ 32 ∷ (s ++ [] ++ [] ++ 41 ∷ []))) ≡ 4 + length s + length s
with_two s = simp (append-nil, length-append) (omega arith)

length-two : (t : SyntaxTree) → length (flat_map text (new_tree (changes_two t) no_places (R []))) ≡ 4 + text_length t + text_length t
length-two t = ap length (text-unowned (changes_two t) no_places (R []) (refl, (refl, tt))) ∙ with_two (text t)

two_payloads_are_too_long : (made : OriginTree) → new_tree (changes_two (long 31)) no_places (R []) ≡ made ∷ [] → TextIsTooLong made
two_payloads_are_too_long made is =
    let all : length (text made) ≡ 4 + text_length (long 31) + text_length (long 31) = ap length (sym (append-nil (text made)) ∙ ap (flat_map text) (sym is)) ∙ length-two (long 31) in
    omega (arith, longest)

-- ---- the whole tree put first, and all the rest deleted: a text between the two would be too long
abbrev pub P : Path → Element
P p = element_of_tree 1 (long 31) p

abbrev pub changes_emptied : List Change
changes_emptied = Insert (first_in (P [])) (node_value (P [])) ∷ ReplaceAll (node_value (P (0 ∷ []))) (token_value (P (31 ∷ []))) [] ∷ []

nothing_added : (s : List ℕ) → s ++ [] ++ [] ++ [] ++ [] ≡ s
nothing_added s = simp append-nil

text-emptied : flat_map text (new_tree changes_emptied no_places (P [])) ≡ text (long 31)
unfolding long falling
text-emptied = text-unowned changes_emptied no_places (P []) (refl, (refl, tt)) ∙ nothing_added (text (long 31))

emptied_is_of_the_greatest_length : length (flat_map text (new_tree changes_emptied no_places (P []))) ≡ 4294967295
emptied_is_of_the_greatest_length = ap length text-emptied ∙ longest
