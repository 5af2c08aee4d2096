-- Worked scripts with lines in other layouts: spaces, zeros before numbers, and texts.
use Rattle.std.specs.Prelude.{[], ◌∷◌, ◌++◌, codes, refl, ℕ, zero, suc, List}
use Rattle.std.specs.Fmt.{digits}
use Rattle.cst_core.specs.Kinds.{ARG_LIST, ATTR, COMMA, COMMENT, IDENT, LITERAL, L_PAREN, NAME, R_PAREN}
use Rattle.script_lines.specs.Line.{fields, words}
use Rattle.script_lines.specs.ScriptLine.{Tree, Edit, Before, Insert, Replace, Order}
use Rattle.cst_core.specs.Tree.{SyntaxTree}
use Rattle.std.specs.Char.{encode_utf8}
use Rattle.std.specs.Str.{is_utf8, chars}
use Rattle.syned_run.proofs.ScriptOrders.{edited_by}
use Rattle.syned_run.specs.inner.SynedAnswer.{IsAnswer}
use Rattle.syned_run.proofs.ScriptTrees.{node, token, A, R, X, Y, from_arguments, on_arguments, text_U, text_X, text_Y, tree_U, tree_X, tree_Y}
use Rattle.syned_run.proofs.ScriptAnswers.{edited}

spaces_between_and_around_fields : IsAnswer (codes "   tree   A    (ARG_LIST   L_PAREN\"(\"   (ATTR  )COMMA\",\"(NAME)R_PAREN\")\"  )   \n edit  R   A \n   replace   R/1   R/2  \n  finish   \n") 0 (codes "text \"(,,)\"\nchanged 1\n")
unfolding fields words digits
spaces_between_and_around_fields = edited _ _ (Tree (codes "A") (node ARG_LIST (token L_PAREN (codes "(") ∷ node ATTR [] ∷ token COMMA (codes ",") ∷ node NAME [] ∷ token R_PAREN (codes ")") ∷ [])) ∷ Edit (codes "R") (A []) ∷ Replace (R (1 ∷ [])) (R (2 ∷ []) ∷ []) ∷ []) refl refl refl refl refl

numbers_with_zeros_before_them : IsAnswer (codes "tree A (ARG_LIST IDENT\"a\" IDENT\"b\")\nedit R A\nreplace R/000000000000000000000000000000000001 R/00\nfinish\n") 0 (codes "text \"aa\"\nchanged 1\n")
unfolding fields words digits
numbers_with_zeros_before_them = edited _ _ (Tree (codes "A") (node ARG_LIST (token IDENT (codes "a") ∷ token IDENT (codes "b") ∷ [])) ∷ Edit (codes "R") (A []) ∷ Replace (R (1 ∷ [])) (R (0 ∷ []) ∷ []) ∷ []) refl refl refl refl refl

numbers_of_an_order_with_zeros_before_them : IsAnswer (on_arguments (text_X ++ text_Y ++ codes "insert before R/1 X/0\ninsert before R/4 Y/0\norder 0001 00000000000000000000000000000000\nfinish\n")) 0 (codes "text \"(x1, y2)\"\nchanged 1 5\n")
unfolding fields words digits
numbers_of_an_order_with_zeros_before_them = edited_by _ _ (from_arguments (tree_X ∷ tree_Y ∷ Insert (Before (R (1 ∷ []))) (X (0 ∷ []) ∷ []) ∷ Insert (Before (R (4 ∷ []))) (Y (0 ∷ []) ∷ []) ∷ Order (1 ∷ 0 ∷ []) ∷ [])) (1 ∷ 0 ∷ []) refl refl refl refl refl refl refl

a_space_before_the_end_of_a_node : IsAnswer (on_arguments (text_U ++ codes "tree B (ARG_LIST )\nfinish\n")) 0 (codes "text \"(1, 2)\"\nchanged\n")
unfolding fields words digits
a_space_before_the_end_of_a_node = edited _ _ (from_arguments (tree_U ∷ Tree (codes "B") (node ARG_LIST []) ∷ [])) refl refl refl refl refl

spaces_around_an_expression : IsAnswer (on_arguments (text_U ++ codes "tree B    (ARG_LIST)   \nfinish\n")) 0 (codes "text \"(1, 2)\"\nchanged\n")
unfolding fields words digits
spaces_around_an_expression = edited _ _ (from_arguments (tree_U ∷ Tree (codes "B") (node ARG_LIST []) ∷ [])) refl refl refl refl refl

a_node_without_a_space : IsAnswer (on_arguments (text_U ++ codes "tree B (ARG_LIST(ATTR))\nfinish\n")) 0 (codes "text \"(1, 2)\"\nchanged\n")
unfolding fields words digits
a_node_without_a_space = edited _ _ (from_arguments (tree_U ∷ Tree (codes "B") (node ARG_LIST (node ATTR [] ∷ [])) ∷ [])) refl refl refl refl refl

spaces_in_nodes : IsAnswer (on_arguments (text_U ++ codes "tree B (ARG_LIST  (ATTR  )  (ATTR)  )\nfinish\n")) 0 (codes "text \"(1, 2)\"\nchanged\n")
unfolding fields words digits
spaces_in_nodes = edited _ _ (from_arguments (tree_U ∷ Tree (codes "B") (node ARG_LIST (node ATTR [] ∷ node ATTR [] ∷ [])) ∷ [])) refl refl refl refl refl

a_token_without_text : IsAnswer (on_arguments (text_U ++ codes "tree B (ARG_LIST IDENT\"\")\nfinish\n")) 0 (codes "text \"(1, 2)\"\nchanged\n")
unfolding fields words digits
a_token_without_text = edited _ _ (from_arguments (tree_U ∷ Tree (codes "B") (node ARG_LIST (token IDENT (codes "") ∷ [])) ∷ [])) refl refl refl refl refl

tokens_without_a_space : IsAnswer (on_arguments (text_U ++ codes "tree B (ARG_LIST IDENT\"a\"IDENT\"b\")\nfinish\n")) 0 (codes "text \"(1, 2)\"\nchanged\n")
unfolding fields words digits
tokens_without_a_space = edited _ _ (from_arguments (tree_U ∷ Tree (codes "B") (node ARG_LIST (token IDENT (codes "a") ∷ token IDENT (codes "b") ∷ [])) ∷ [])) refl refl refl refl refl

nodes_and_tokens_without_a_space : IsAnswer (on_arguments (text_U ++ codes "tree B (ARG_LIST IDENT\"a\"(ATTR)IDENT\"b\")\nfinish\n")) 0 (codes "text \"(1, 2)\"\nchanged\n")
unfolding fields words digits
nodes_and_tokens_without_a_space = edited _ _ (from_arguments (tree_U ∷ Tree (codes "B") (node ARG_LIST (token IDENT (codes "a") ∷ node ATTR [] ∷ token IDENT (codes "b") ∷ [])) ∷ [])) refl refl refl refl refl

each_escape : IsAnswer (on_arguments (text_U ++ codes "tree B (ARG_LIST IDENT\"a\\n\\r\\t\\\"\\\\b\")\nfinish\n")) 0 (codes "text \"(1, 2)\"\nchanged\n")
unfolding fields words digits
each_escape = edited _ _ (from_arguments (tree_U ∷ Tree (codes "B") (node ARG_LIST (token IDENT (codes "a\n\r\t\"\\b") ∷ [])) ∷ [])) refl refl refl refl refl

parentheses_in_a_text : IsAnswer (on_arguments (text_U ++ codes "tree B (ARG_LIST IDENT\"(ATTR)\")\nfinish\n")) 0 (codes "text \"(1, 2)\"\nchanged\n")
unfolding fields words digits
parentheses_in_a_text = edited _ _ (from_arguments (tree_U ∷ Tree (codes "B") (node ARG_LIST (token IDENT (codes "(ATTR)") ∷ [])) ∷ [])) refl refl refl refl refl

a_tab_in_a_text : IsAnswer (on_arguments (text_U ++ codes "tree B (ARG_LIST IDENT\"\t\")\nfinish\n")) 0 (codes "text \"(1, 2)\"\nchanged\n")
unfolding fields words digits
a_tab_in_a_text = edited _ _ (from_arguments (tree_U ∷ Tree (codes "B") (node ARG_LIST (token IDENT (codes "\t") ∷ [])) ∷ [])) refl refl refl refl refl

a_node_of_a_token_kind : IsAnswer (on_arguments (text_U ++ codes "tree B (IDENT ARG_LIST\"a\")\nfinish\n")) 0 (codes "text \"(1, 2)\"\nchanged\n")
unfolding fields words digits
a_node_of_a_token_kind = edited _ _ (from_arguments (tree_U ∷ Tree (codes "B") (node IDENT (token ARG_LIST (codes "a") ∷ [])) ∷ [])) refl refl refl refl refl

name_of_thirty_two : IsAnswer (on_arguments (text_U ++ codes "tree a2345678901234567890123456789012 (ARG_LIST)\nfinish\n")) 0 (codes "text \"(1, 2)\"\nchanged\n")
unfolding fields words digits
name_of_thirty_two = edited _ _ (from_arguments (tree_U ∷ Tree (codes "a2345678901234567890123456789012") (node ARG_LIST []) ∷ [])) refl refl refl refl refl

name_that_differs_by_case : IsAnswer (on_arguments (text_U ++ codes "tree r (ARG_LIST)\nfinish\n")) 0 (codes "text \"(1, 2)\"\nchanged\n")
unfolding fields words digits
name_that_differs_by_case = edited _ _ (from_arguments (tree_U ∷ Tree (codes "r") (node ARG_LIST []) ∷ [])) refl refl refl refl refl

-- "é ☃ 𝄞"
abbrev beyond : List ℕ
beyond = 195 ∷ 169 ∷ 32 ∷ 226 ∷ 152 ∷ 131 ∷ 32 ∷ 240 ∷ 157 ∷ 132 ∷ 158 ∷ []

characters_that_stand_for_themselves : IsAnswer (codes "tree A (LITERAL COMMENT\"" ++ beyond ++ codes " ' / ( ) [ ] # \t \")\nedit R A\nfinish\n") 0 (codes "text \"" ++ beyond ++ codes " ' / ( ) [ ] # \\t \"\nchanged\n")
unfolding fields words digits is_utf8 chars encode_utf8
characters_that_stand_for_themselves = edited _ _ (Tree (codes "A") (node LITERAL (token COMMENT (beyond ++ codes " ' / ( ) [ ] # \t ") ∷ [])) ∷ Edit (codes "R") (A []) ∷ []) refl refl refl refl refl

-- so many nodes in each other
abbrev nested : ℕ → SyntaxTree
nested zero = node LITERAL []
nested (suc n) = node LITERAL (nested n ∷ [])

abbrev opened : ℕ → List ℕ
opened zero = []
opened (suc n) = codes "(LITERAL " ++ opened n

abbrev closed : ℕ → List ℕ
closed zero = []
closed (suc n) = codes ")" ++ closed n

two_hundred_parentheses : IsAnswer (codes "tree A " ++ (opened 200 ++ closed 200) ++ codes "\nedit R A\nfinish\n") 0 (codes "text \"\"\nchanged\n")
unfolding fields words digits
two_hundred_parentheses = edited _ _ (Tree (codes "A") (nested 199) ∷ Edit (codes "R") (A []) ∷ []) refl refl refl refl refl
