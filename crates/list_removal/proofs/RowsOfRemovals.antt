-- Worked examples of removals.
use Rattle.std.specs.Prelude.{◌≡◌, ℕ, List, [], ◌∷◌, map, codes, refl}
use Rattle.std.specs.Str.{chars}
use Rattle.cst_core.specs.Path.{Path}
use Rattle.cst_core.specs.Tree.{Token, SyntaxTree, node}
use Rattle.cst_core.specs.Element.{Element}
use Rattle.cst_core.specs.SyntaxElement.{element_of, syntax_of}
use Rattle.cst_core.specs.SyntaxKind.{SyntaxKind}
use Rattle.cst_core.specs.Kinds.{ARG_LIST, COMMA, INT_NUMBER, LITERAL, L_PAREN, R_PAREN, SEMICOLON, WHITESPACE}
use Rattle.list_removal.specs.Removal.{removed_run}
use Rattle.list_removal.specs.RemovalText.{text_without}

abbrev element : List SyntaxTree → Path → Element
element ts p = record { number = 1; root = node ARG_LIST.0 ts; path = p }

-- the paths of the first and the last that go with the child in a slot
abbrev run : SyntaxKind → List SyntaxTree → ℕ → Path × Path
run separator ts slot =
    let ends = removed_run separator (syntax_of (element ts (slot ∷ []))) in
    ((element_of ends.0).path, (element_of ends.1).path)

abbrev left : SyntaxKind → List SyntaxTree → ℕ → List ℕ
left separator ts slot =
    let ends = removed_run separator (syntax_of (element ts (slot ∷ []))) in
    text_without (node ARG_LIST.0 ts) ends.0 ends.1

abbrev one : SyntaxTree
one = node LITERAL.0 (Token INT_NUMBER.0 (codes "1") ∷ [])

abbrev two : SyntaxTree
two = node LITERAL.0 (Token INT_NUMBER.0 (codes "2") ∷ [])

abbrev comma : SyntaxTree
comma = Token COMMA.0 (codes ",")

abbrev space : SyntaxTree
space = Token WHITESPACE.0 (codes " ")

-- `(1, 2)`
abbrev tree_L : List SyntaxTree
tree_L = Token L_PAREN.0 (codes "(") ∷ one ∷ comma ∷ space ∷ two ∷ Token R_PAREN.0 (codes ")") ∷ []

separator_after_the_first : run COMMA tree_L 1 ≡ (1 ∷ [], 3 ∷ [])
unfolding chars
separator_after_the_first = refl

separator_before_the_last : run COMMA tree_L 4 ≡ (2 ∷ [], 4 ∷ [])
unfolding chars
separator_before_the_last = refl

no_separator : run SEMICOLON tree_L 1 ≡ (1 ∷ [], 1 ∷ [])
unfolding chars
no_separator = refl

texts_left : left COMMA tree_L 1 ∷ left COMMA tree_L 4 ∷ left SEMICOLON tree_L 1 ∷ [] ≡ codes "(2)" ∷ codes "(1)" ∷ codes "(, 2)" ∷ []
unfolding chars
texts_left = refl

-- the root of a tree
root_alone : removed_run COMMA (syntax_of (element tree_L [])) ≡ (syntax_of (element tree_L []), syntax_of (element tree_L []))
root_alone = refl

-- whitespace before the separator: `1 , 2`
whitespace_before_the_separator : map (run COMMA (one ∷ space ∷ comma ∷ space ∷ two ∷ [])) (0 ∷ 4 ∷ []) ≡ (0 ∷ [], 3 ∷ []) ∷ (2 ∷ [], 4 ∷ []) ∷ []
unfolding chars
whitespace_before_the_separator = refl

-- two whitespace tokens are not skipped, and of two after the separator one goes
two_whitespace_tokens_not_skipped : run COMMA (one ∷ space ∷ space ∷ comma ∷ two ∷ []) 0 ≡ (0 ∷ [], 0 ∷ [])
unfolding chars
two_whitespace_tokens_not_skipped = refl

one_of_two_whitespace_tokens_goes : run COMMA (one ∷ comma ∷ space ∷ space ∷ two ∷ []) 0 ≡ (0 ∷ [], 2 ∷ [])
unfolding chars
one_of_two_whitespace_tokens_goes = refl

-- between two separators
between_two_separators : run COMMA (one ∷ comma ∷ two ∷ comma ∷ one ∷ []) 2 ≡ (2 ∷ [], 3 ∷ [])
unfolding chars
between_two_separators = refl

-- whitespace as the separator: the one beside the element is skipped first
whitespace_as_the_separator : map (run WHITESPACE (one ∷ space ∷ two ∷ space ∷ space ∷ one ∷ [])) (0 ∷ 2 ∷ 5 ∷ []) ≡ (0 ∷ [], 0 ∷ []) ∷ (2 ∷ [], 4 ∷ []) ∷ (3 ∷ [], 5 ∷ []) ∷ []
unfolding chars
whitespace_as_the_separator = refl

-- nodes of the kinds of whitespace and of the separator count for neither
nodes_are_neither : map (run COMMA (one ∷ node COMMA.0 [] ∷ two ∷ node WHITESPACE.0 [] ∷ comma ∷ node WHITESPACE.0 [] ∷ one ∷ [])) (0 ∷ 2 ∷ 3 ∷ []) ≡ (0 ∷ [], 0 ∷ []) ∷ (2 ∷ [], 2 ∷ []) ∷ (3 ∷ [], 4 ∷ []) ∷ []
unfolding chars
nodes_are_neither = refl
