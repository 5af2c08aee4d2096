-- Worked scripts that make an edit: of roots, names, texts and lines.
use Rattle.std.specs.Prelude.{[], ◌∷◌, ◌++◌, codes, refl}
use Rattle.std.specs.Fmt.{digits}
use Rattle.cst_core.specs.Kinds.{ARG_LIST, ATTR, COMMA, IDENT, LITERAL, NAME}
use Rattle.script_lines.specs.Line.{fields, words}
use Rattle.script_lines.specs.ScriptLine.{Blank, Tree, Edit, Replace}
use Rattle.syned_run.specs.inner.SynedAnswer.{IsAnswer}
use Rattle.syned_run.proofs.ScriptTrees.{ref, node, token, literal, A, R, U, V, X, Y, from_arguments, on_arguments, text_A, text_U, text_V, text_X, text_Y, tree_A, tree_U, tree_V, tree_X, tree_Y}
use Rattle.syned_run.proofs.ScriptAnswers.{edited}

one_token_for_a_literal : IsAnswer (on_arguments (text_U ++ codes "replace R/1 U/0\nfinish\n")) 0 (codes "text \"(_, 2)\"\nchanged 1\n")
unfolding fields words digits
one_token_for_a_literal = edited _ _ (from_arguments (tree_U ∷ Replace (R (1 ∷ [])) (U (0 ∷ []) ∷ []) ∷ [])) refl refl refl refl refl

no_change : IsAnswer (on_arguments (codes "finish\n")) 0 (codes "text \"(1, 2)\"\nchanged\n")
unfolding fields words digits
no_change = edited _ _ (from_arguments []) refl refl refl refl refl

root_replaced_by_a_node : IsAnswer (on_arguments (text_V ++ codes "replace R V\nfinish\n")) 0 (codes "text \"()\"\nchanged .\n")
unfolding fields words digits
root_replaced_by_a_node = edited _ _ (from_arguments (tree_V ∷ Replace (R []) (V [] ∷ []) ∷ [])) refl refl refl refl refl

the_last_of_two_for_one_element : IsAnswer (on_arguments (text_X ++ text_Y ++ codes "replace R/1 X/0\nreplace R/1 Y/0\nfinish\n")) 0 (codes "text \"(y, 2)\"\nchanged 1\n")
unfolding fields words digits
the_last_of_two_for_one_element = edited _ _ (from_arguments (tree_X ∷ tree_Y ∷ Replace (R (1 ∷ [])) (X (0 ∷ []) ∷ []) ∷ Replace (R (1 ∷ [])) (Y (0 ∷ []) ∷ []) ∷ [])) refl refl refl refl refl

an_editor_of_an_inner_node : IsAnswer (text_A ++ codes "edit R A/1\nfinish\n") 0 (codes "text \"1\"\nchanged\n")
unfolding fields words digits
an_editor_of_an_inner_node = edited _ _ (tree_A ∷ Edit (codes "R") (A (1 ∷ [])) ∷ []) refl refl refl refl refl

the_tree_of_the_editor_by_its_first_name : IsAnswer (on_arguments (codes "replace A/1/0 R/4\nfinish\n")) 0 (codes "text \"(2, 2)\"\nchanged 1/0\n")
unfolding fields words digits
the_tree_of_the_editor_by_its_first_name = edited _ _ (from_arguments (Replace (A (1 ∷ 0 ∷ [])) (R (4 ∷ []) ∷ []) ∷ [])) refl refl refl refl refl

an_element_for_itself : IsAnswer (on_arguments (codes "replace R/2 R/2\nfinish\n")) 0 (codes "text \"(1, 2)\"\nchanged 2\n")
unfolding fields words digits
an_element_for_itself = edited _ _ (from_arguments (Replace (R (2 ∷ [])) (R (2 ∷ []) ∷ []) ∷ [])) refl refl refl refl refl

each_escape_there_and_back : IsAnswer (codes "tree A (LITERAL INT_NUMBER\"a\\n\\r\\t\\\"\\\\z\")\nedit R A\nfinish\n") 0 (codes "text \"a\\n\\r\\t\\\"\\\\z\"\nchanged\n")
unfolding fields words digits
each_escape_there_and_back = edited _ _ (Tree (codes "A") (literal (codes "a\n\r\t\"\\z")) ∷ Edit (codes "R") (A []) ∷ []) refl refl refl refl refl

escapes_where_texts_meet : IsAnswer (codes "tree A (LITERAL IDENT\"\\\\\" IDENT\"n\" IDENT\"\\\"\")\nedit R A\nfinish\n") 0 (codes "text \"\\\\n\\\"\"\nchanged\n")
unfolding fields words digits
escapes_where_texts_meet = edited _ _ (Tree (codes "A") (node LITERAL (token IDENT (codes "\\") ∷ token IDENT (codes "n") ∷ token IDENT (codes "\"") ∷ [])) ∷ Edit (codes "R") (A []) ∷ []) refl refl refl refl refl

a_tree_without_a_token : IsAnswer (codes "tree A (ARG_LIST)\nedit R A\nfinish\n") 0 (codes "text \"\"\nchanged\n")
unfolding fields words digits
a_tree_without_a_token = edited _ _ (Tree (codes "A") (node ARG_LIST []) ∷ Edit (codes "R") (A []) ∷ []) refl refl refl refl refl

long_path : IsAnswer (codes "tree A (ARG_LIST (ATTR) (ATTR) (ATTR) (ATTR) (ATTR) (ATTR) (ATTR) (ATTR) (ATTR) (ATTR) (ATTR IDENT\"a\" (NAME COMMA\",\" IDENT\"b\")))\nedit R A\nreplace R/10/1/1 R/10/0\nfinish\n") 0 (codes "text \"a,a\"\nchanged 10/1/1\n")
unfolding fields words digits
long_path = edited _ _ (Tree (codes "A") (node ARG_LIST (node ATTR [] ∷ node ATTR [] ∷ node ATTR [] ∷ node ATTR [] ∷ node ATTR [] ∷ node ATTR [] ∷ node ATTR [] ∷ node ATTR [] ∷ node ATTR [] ∷ node ATTR [] ∷ node ATTR (token IDENT (codes "a") ∷ node NAME (token COMMA (codes ",") ∷ token IDENT (codes "b") ∷ []) ∷ []) ∷ [])) ∷ Edit (codes "R") (A []) ∷ Replace (R (10 ∷ 1 ∷ 1 ∷ [])) (R (10 ∷ 0 ∷ []) ∷ []) ∷ []) refl refl refl refl refl

blank_lines_and_comments_anywhere : IsAnswer (codes "# a script\n\n   # with spaces before a comment\ntree A (ARG_LIST)\n#tree A (ARG_LIST)\n\nedit R A\n  \nfinish\n\n# the end\n   \n") 0 (codes "text \"\"\nchanged\n")
unfolding fields words digits
blank_lines_and_comments_anywhere = edited _ _ (Blank ∷ Blank ∷ Blank ∷ Tree (codes "A") (node ARG_LIST []) ∷ Blank ∷ Blank ∷ Edit (codes "R") (A []) ∷ Blank ∷ []) refl refl refl refl refl

names_of_one_and_of_thirty_two_characters : IsAnswer (codes "tree a (ARG_LIST)\ntree a_9456789012345678901234567890_Z (ARG_LIST IDENT\"x\")\nedit R a_9456789012345678901234567890_Z\nfinish\n") 0 (codes "text \"x\"\nchanged\n")
unfolding fields words digits
names_of_one_and_of_thirty_two_characters = edited _ _ (Tree (codes "a") (node ARG_LIST []) ∷ Tree (codes "a_9456789012345678901234567890_Z") (node ARG_LIST (token IDENT (codes "x") ∷ [])) ∷ Edit (codes "R") (ref (codes "a_9456789012345678901234567890_Z") []) ∷ []) refl refl refl refl refl

names_differ_by_case : IsAnswer (codes "tree a (ARG_LIST IDENT\"x\")\ntree A (ARG_LIST IDENT\"y\")\nedit r a\nfinish\n") 0 (codes "text \"x\"\nchanged\n")
unfolding fields words digits
names_differ_by_case = edited _ _ (Tree (codes "a") (node ARG_LIST (token IDENT (codes "x") ∷ [])) ∷ Tree (codes "A") (node ARG_LIST (token IDENT (codes "y") ∷ [])) ∷ Edit (codes "r") (ref (codes "a") []) ∷ []) refl refl refl refl refl

words_as_names : IsAnswer (codes "tree tree (ARG_LIST IDENT\"x\")\nedit finish tree\nfinish\n") 0 (codes "text \"x\"\nchanged\n")
unfolding fields words digits
words_as_names = edited _ _ (Tree (codes "tree") (node ARG_LIST (token IDENT (codes "x") ∷ [])) ∷ Edit (codes "finish") (ref (codes "tree") []) ∷ []) refl refl refl refl refl

no_newline_at_the_end : IsAnswer (on_arguments (text_U ++ codes "finish")) 0 (codes "text \"(1, 2)\"\nchanged\n")
unfolding fields words digits
no_newline_at_the_end = edited _ _ (from_arguments (tree_U ∷ [])) refl refl refl refl refl

carriage_return_at_the_end : IsAnswer (on_arguments (text_U ++ codes "finish\r")) 0 (codes "text \"(1, 2)\"\nchanged\n")
unfolding fields words digits
carriage_return_at_the_end = edited _ _ (from_arguments (tree_U ∷ [])) refl refl refl refl refl

space_before_a_carriage_return : IsAnswer (on_arguments (text_U ++ codes "finish \r\n")) 0 (codes "text \"(1, 2)\"\nchanged\n")
unfolding fields words digits
space_before_a_carriage_return = edited _ _ (from_arguments (tree_U ∷ [])) refl refl refl refl refl

blank_lines_with_carriage_returns_after_the_end : IsAnswer (on_arguments (text_U ++ codes "finish\n\r\n# end\r")) 0 (codes "text \"(1, 2)\"\nchanged\n")
unfolding fields words digits
blank_lines_with_carriage_returns_after_the_end = edited _ _ (from_arguments (tree_U ∷ [])) refl refl refl refl refl
