-- Worked examples of levels and of indented and dedented trees.
use Rattle.std.specs.Prelude.{◌≡◌, ℕ, List, [], ◌∷◌, codes, map, replicate, true, false, refl}
use Rattle.std.specs.Str.{chars}
use Rattle.cst_core.specs.Tree.{SyntaxTree, text}
use Rattle.cst_core.specs.Element.{Element, element_at}
use Rattle.cst_core.specs.Kinds.{ATTR, BLOCK_EXPR, COMMA, COMMENT, FAT_ARROW, IDENT, L_CURLY, MATCH_ARM, MATCH_ARM_LIST, NAME, R_CURLY, SOURCE_FILE, STMT_LIST, UNDERSCORE, WHITESPACE, WILDCARD_PAT}
use Rattle.edit_map.specs.Mapping.{followed}
use Rattle.edit_map.proofs.RowTrees.{token, branch, tree_B, tree_V}
use Rattle.edit_map.proofs.Rows.{element_of_tree, B}
use Rattle.whitespace.specs.Level.{newline, space, level_text, level, is_too_deep}
use Rattle.whitespace.specs.Indentation.{indented, dedented, dedented_text, reset, mapped_children}

-- ---- trees
abbrev tree_AR : SyntaxTree
tree_AR = branch MATCH_ARM (branch WILDCARD_PAT (token UNDERSCORE (codes "_") ∷ []) ∷ token WHITESPACE (codes " ") ∷ token FAT_ARROW (codes "=>") ∷ token WHITESPACE (codes " ") ∷ tree_V ∷ token COMMA (codes ",") ∷ [])

abbrev tree_K : SyntaxTree
tree_K = branch MATCH_ARM_LIST (token L_CURLY (codes "{") ∷ token WHITESPACE (codes "\n    ") ∷ tree_AR ∷ token WHITESPACE (codes "\n    ") ∷ tree_AR ∷ token WHITESPACE (codes "\n") ∷ token R_CURLY (codes "}") ∷ [])

abbrev tree_block : SyntaxTree
tree_block = branch SOURCE_FILE (token WHITESPACE (codes "\n    ") ∷ branch BLOCK_EXPR (branch STMT_LIST (token L_CURLY (codes "{") ∷ token WHITESPACE (codes "\n        ") ∷ token R_CURLY (codes "}") ∷ []) ∷ []) ∷ [])

-- ---- indented, dedented and levels
indented_by_two : text (indented 2 tree_K) ≡ codes "{\n            _ => (),\n            _ => (),\n        }"
indented_by_two = refl

-- a statement list whose one child is this whitespace
abbrev alone : List ℕ → SyntaxTree
alone s = branch STMT_LIST (token WHITESPACE s ∷ [])

dedented_by_one : text (dedented 1 (alone (codes "\n\n    "))) ≡ codes "\n\n"
dedented_by_one = refl

abbrev level_alone : List ℕ → ℕ
level_alone s = level (element_of_tree 1 (alone s) (0 ∷ []))

levels_at_the_limit : ◌≡◌ {A = List ℕ} (map level_alone ((newline ∷ replicate 1024 space) ∷ (newline ∷ replicate 1023 space) ∷ [])) (256 ∷ 255 ∷ [])
unfolding chars
levels_at_the_limit = refl

too_deep_at_the_limit : map is_too_deep (256 ∷ 255 ∷ []) ≡ true ∷ false ∷ []
too_deep_at_the_limit = refl

level_printed : level_text 3 ≡ codes "            "
level_printed = refl

-- the last newline counts, and each character after it, spaces or not; the last text ends with one of two bytes
levels_of_whitespace : ◌≡◌ {A = List ℕ} (map level_alone (codes "\n    \n        " ∷ codes "    " ∷ codes "\n  x " ∷ (newline ∷ space ∷ space ∷ 195 ∷ 169 ∷ []) ∷ [])) (2 ∷ 0 ∷ 1 ∷ 0 ∷ [])
unfolding chars
levels_of_whitespace = refl

-- ---- the token that a level is read from
-- a new line of one level, an empty node, a node that begins with an empty one, a comment and a node that hold newlines, and a last token
abbrev mixed : SyntaxTree
mixed =
    branch SOURCE_FILE (token WHITESPACE (codes "\n    ") ∷ branch ATTR [] ∷ branch NAME (branch ATTR [] ∷ token IDENT (codes "a") ∷ []) ∷ token COMMENT (codes "\n        ") ∷ branch WHITESPACE (token COMMENT (codes "\n        ") ∷ []) ∷ token WHITESPACE (codes "  ") ∷ token IDENT (codes "b") ∷ [])

-- an element without tokens has level 0, and no other token than whitespace is read
levels_read : ◌≡◌ {A = List ℕ} (map (λ p. level (element_of_tree 1 mixed p)) ([] ∷ (0 ∷ []) ∷ (1 ∷ []) ∷ (2 ∷ []) ∷ (4 ∷ []) ∷ (6 ∷ []) ∷ [])) (1 ∷ 1 ∷ 0 ∷ 1 ∷ 1 ∷ 1 ∷ [])
unfolding chars
levels_read = refl

others_stay : text (indented 1 mixed) ≡ codes "\n        a\n        \n          b"
others_stay = refl

-- ---- lines
-- only the lines that begin with so many spaces lose them, and what stands before the first newline is no line's beginning
lines_dedented : ◌≡◌ {A = List (List ℕ)} (map (dedented_text 1) (codes "    \n      \n  \n     " ∷ codes "    " ∷ [])) (codes "    \n  \n  \n " ∷ codes "    " ∷ [])
lines_dedented = refl

-- ---- an element's own level
abbrev block : Element
block = element_of_tree 1 tree_block (1 ∷ [])

level_of_a_block : level block ≡ 1
unfolding chars
level_of_a_block = refl

block_reset : text (reset block) ≡ codes "{\n    }"
unfolding chars
block_reset = refl

-- ---- what is mapped along
abbrev fresh : Element
fresh = element_of_tree 2 (indented 1 tree_B) []

text_of_an_indented_block : text (indented 1 tree_B) ≡ codes "{\n        let second = 2;\n    }"
text_of_an_indented_block = refl

child_is_mapped_along : followed (mapped_children (B []) fresh) (B (0 ∷ [])) ≡ element_at fresh (0 ∷ [])
child_is_mapped_along = refl
