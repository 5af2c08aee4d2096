-- Worked scripts with a bad line: what must come before a line, and after `finish`.
use Rattle.std.specs.Prelude.{[], ◌∷◌, ◌++◌, codes, refl}
use Rattle.std.specs.Fmt.{digits}
use Rattle.cst_core.specs.Kinds.{ARG_LIST, ATTR, COMMA, IDENT}
use Rattle.script_lines.specs.Line.{fields, words}
use Rattle.script_lines.specs.ScriptLine.{Blank, Tree, Edit, Map, First, Before, After, Insert, Delete, Replace, Range, Note, Remove, Order}
use Rattle.syned_run.specs.inner.SynedAnswer.{IsAnswer}
use Rattle.syned_run.proofs.ScriptTrees.{ref, node, token, A, R, X, Y, from_arguments, on_arguments, text_A, text_U, text_X, text_Y, tree_A, tree_U, tree_X, tree_Y}
use Rattle.syned_run.proofs.ScriptAnswers.{bad, unread, unfinished, too_early, too_late}

no_line : IsAnswer (codes "") 2 (codes "bad script line 1\n")
unfolding fields words digits
no_line = unfinished _ _ [] refl refl refl

blank_lines_alone : IsAnswer (codes "# a script\n\n\n") 2 (codes "bad script line 4\n")
unfolding fields words digits
blank_lines_alone = unfinished _ _ (Blank ∷ Blank ∷ Blank ∷ []) refl refl refl

no_end : IsAnswer (codes "tree A (ARG_LIST)\nedit R A\n") 2 (codes "bad script line 3\n")
unfolding fields words digits
no_end = unfinished _ _ (Tree (codes "A") (node ARG_LIST []) ∷ Edit (codes "R") (A []) ∷ []) refl refl refl

an_open_tree_alone : IsAnswer (codes "tree A (ARG_LIST\n") 2 (codes "bad script line 1\n")
unfolding fields words digits
an_open_tree_alone = unread _ _ [] refl refl refl

an_edit_of_a_token : IsAnswer (codes "tree A (ARG_LIST IDENT\"a\")\nedit R A/0\nfinish\n") 2 (codes "bad script line 2\n")
unfolding fields words digits
an_edit_of_a_token = bad _ _ (Tree (codes "A") (node ARG_LIST (token IDENT (codes "a") ∷ [])) ∷ []) (Edit (codes "R") (A (0 ∷ []))) refl refl refl refl

an_editor_with_a_name_that_is_taken : IsAnswer (codes "tree A (ARG_LIST IDENT\"a\")\ntree B (ARG_LIST IDENT\"b\")\nedit A B\nfinish\n") 2 (codes "bad script line 3\n")
unfolding fields words digits
an_editor_with_a_name_that_is_taken = bad _ _ (Tree (codes "A") (node ARG_LIST (token IDENT (codes "a") ∷ [])) ∷ Tree (codes "B") (node ARG_LIST (token IDENT (codes "b") ∷ [])) ∷ []) (Edit (codes "A") (ref (codes "B") [])) refl refl refl refl

a_name_that_an_editor_has : IsAnswer (codes "tree A (ARG_LIST IDENT\"a\")\nedit R A\ntree R (ARG_LIST)\nfinish\n") 2 (codes "bad script line 3\n")
unfolding fields words digits
a_name_that_an_editor_has = bad _ _ (Tree (codes "A") (node ARG_LIST (token IDENT (codes "a") ∷ [])) ∷ Edit (codes "R") (A []) ∷ []) (Tree (codes "R") (node ARG_LIST [])) refl refl refl refl

the_first_bad_line_of_two : IsAnswer (codes "tree A (ARG_LIST\nedit\nfinish\n") 2 (codes "bad script line 1\n")
unfolding fields words digits
the_first_bad_line_of_two = unread _ _ [] refl refl refl

a_bad_end_before_a_bad_line : IsAnswer (codes "tree A (ARG_LIST)\nfinish\nno\n") 2 (codes "bad script line 2\n")
unfolding fields words digits
a_bad_end_before_a_bad_line = too_early _ _ (Tree (codes "A") (node ARG_LIST []) ∷ []) refl refl refl refl

a_line_after_the_end : IsAnswer (codes "tree A (ARG_LIST)\nedit R A\nfinish\n\n# the end\nedit S A\n") 2 (codes "bad script line 6\n")
unfolding fields words digits
a_line_after_the_end = too_late _ _ (Tree (codes "A") (node ARG_LIST []) ∷ Edit (codes "R") (A []) ∷ []) refl refl refl refl refl

a_second_end : IsAnswer (codes "tree A (ARG_LIST)\nedit R A\nfinish\nfinish\n") 2 (codes "bad script line 4\n")
unfolding fields words digits
a_second_end = too_late _ _ (Tree (codes "A") (node ARG_LIST []) ∷ Edit (codes "R") (A []) ∷ []) refl refl refl refl refl

a_map_before_an_editor : IsAnswer (codes "tree A (ARG_LIST (ATTR))\nmap A A A/0\nedit R A\nfinish\n") 2 (codes "bad script line 2\n")
unfolding fields words digits
a_map_before_an_editor = bad _ _ (Tree (codes "A") (node ARG_LIST (node ATTR [] ∷ [])) ∷ []) (Map (A []) (A []) (A (0 ∷ []))) refl refl refl refl

a_line_after_the_end_of_an_edit_that_would_be_refused : IsAnswer (on_arguments (text_X ++ codes "replace R/1 R/1\ninsert after R/1 X/0\nfinish\ndelete R/2\n")) 2 (codes "bad script line 7\n")
unfolding fields words digits
a_line_after_the_end_of_an_edit_that_would_be_refused = too_late _ _ (from_arguments (tree_X ∷ Replace (R (1 ∷ [])) (R (1 ∷ []) ∷ []) ∷ Insert (After (R (1 ∷ []))) (X (0 ∷ []) ∷ []) ∷ [])) refl refl refl refl refl

a_note_before_an_editor_of_known_names : IsAnswer (text_A ++ codes "note w A/1\nedit R A\nfinish\n") 2 (codes "bad script line 2\n")
unfolding fields words digits
a_note_before_an_editor_of_known_names = bad _ _ (tree_A ∷ []) (Note (codes "w") (A (1 ∷ []))) refl refl refl refl

an_insert_before_an_editor_of_known_names : IsAnswer (text_A ++ codes "insert first A A/1\nedit R A\nfinish\n") 2 (codes "bad script line 2\n")
unfolding fields words digits
an_insert_before_an_editor_of_known_names = bad _ _ (tree_A ∷ []) (Insert (First (A [])) (A (1 ∷ []) ∷ [])) refl refl refl refl

a_deletion_before_an_editor_of_known_names : IsAnswer (text_A ++ codes "delete A/1\nedit R A\nfinish\n") 2 (codes "bad script line 2\n")
unfolding fields words digits
a_deletion_before_an_editor_of_known_names = bad _ _ (tree_A ∷ []) (Delete (A (1 ∷ []))) refl refl refl refl

a_replacement_before_an_editor_of_known_names : IsAnswer (text_A ++ codes "replace A/1 A/4\nedit R A\nfinish\n") 2 (codes "bad script line 2\n")
unfolding fields words digits
a_replacement_before_an_editor_of_known_names = bad _ _ (tree_A ∷ []) (Replace (A (1 ∷ [])) (A (4 ∷ []) ∷ [])) refl refl refl refl

a_range_before_an_editor_of_known_names : IsAnswer (text_A ++ codes "range A/1 A/4 A/1\nedit R A\nfinish\n") 2 (codes "bad script line 2\n")
unfolding fields words digits
a_range_before_an_editor_of_known_names = bad _ _ (tree_A ∷ []) (Range (A (1 ∷ [])) (A (4 ∷ [])) (A (1 ∷ []) ∷ [])) refl refl refl refl

an_order_before_an_editor : IsAnswer (text_A ++ codes "order\nedit R A\nfinish\n") 2 (codes "bad script line 2\n")
unfolding fields words digits
an_order_before_an_editor = bad _ _ (tree_A ∷ []) (Order []) refl refl refl refl

a_second_order : IsAnswer (on_arguments (text_X ++ text_Y ++ codes "insert before R/1 X/0\ninsert before R/4 Y/0\norder 0 1\norder 0 1\nfinish\n")) 2 (codes "bad script line 8\n")
unfolding fields words digits
a_second_order = bad _ _ (from_arguments (tree_X ∷ tree_Y ∷ Insert (Before (R (1 ∷ []))) (X (0 ∷ []) ∷ []) ∷ Insert (Before (R (4 ∷ []))) (Y (0 ∷ []) ∷ []) ∷ Order (0 ∷ 1 ∷ []) ∷ [])) (Order (0 ∷ 1 ∷ [])) refl refl refl refl

a_number_too_large_in_an_order : IsAnswer (on_arguments (text_X ++ text_Y ++ codes "insert before R/1 X/0\ninsert before R/4 Y/0\norder 0 1 18446744073709551616\nfinish\n")) 2 (codes "bad script line 7\n")
unfolding fields words digits
a_number_too_large_in_an_order = unread _ _ (from_arguments (tree_X ∷ tree_Y ∷ Insert (Before (R (1 ∷ []))) (X (0 ∷ []) ∷ []) ∷ Insert (Before (R (4 ∷ []))) (Y (0 ∷ []) ∷ []) ∷ [])) refl refl refl

an_order_after_the_end : IsAnswer (on_arguments (text_X ++ text_Y ++ codes "insert before R/1 X/0\ninsert before R/4 Y/0\nfinish\norder 0 1\n")) 2 (codes "bad script line 8\n")
unfolding fields words digits
an_order_after_the_end = too_late _ _ (from_arguments (tree_X ∷ tree_Y ∷ Insert (Before (R (1 ∷ []))) (X (0 ∷ []) ∷ []) ∷ Insert (Before (R (4 ∷ []))) (Y (0 ∷ []) ∷ []) ∷ [])) refl refl refl refl refl

an_order_and_no_end : IsAnswer (on_arguments (text_X ++ text_Y ++ codes "insert before R/1 X/0\ninsert before R/4 Y/0\norder 1 1\n")) 2 (codes "bad script line 8\n")
unfolding fields words digits
an_order_and_no_end = unfinished _ _ (from_arguments (tree_X ∷ tree_Y ∷ Insert (Before (R (1 ∷ []))) (X (0 ∷ []) ∷ []) ∷ Insert (Before (R (4 ∷ []))) (Y (0 ∷ []) ∷ []) ∷ Order (1 ∷ 1 ∷ []) ∷ [])) refl refl refl

a_line_after_the_end_comes_before_a_refused_order : IsAnswer (on_arguments (text_X ++ text_Y ++ codes "insert before R/1 X/0\ninsert before R/4 Y/0\norder 1 1\nfinish\nno\n")) 2 (codes "bad script line 9\n")
unfolding fields words digits
a_line_after_the_end_comes_before_a_refused_order = too_late _ _ (from_arguments (tree_X ∷ tree_Y ∷ Insert (Before (R (1 ∷ []))) (X (0 ∷ []) ∷ []) ∷ Insert (Before (R (4 ∷ []))) (Y (0 ∷ []) ∷ []) ∷ Order (1 ∷ 1 ∷ []) ∷ [])) refl refl refl refl refl

a_deletion_after_the_end : IsAnswer (on_arguments (text_U ++ codes "finish\n\ndelete R\nno\n")) 2 (codes "bad script line 6\n")
unfolding fields words digits
a_deletion_after_the_end = too_late _ _ (from_arguments (tree_U ∷ [])) refl refl refl refl refl

a_tree_after_the_end : IsAnswer (on_arguments (text_U ++ codes "finish\n\ntree B (ARG_LIST)\nno\n")) 2 (codes "bad script line 6\n")
unfolding fields words digits
a_tree_after_the_end = too_late _ _ (from_arguments (tree_U ∷ [])) refl refl refl refl refl

a_bad_line_after_the_end : IsAnswer (on_arguments (text_U ++ codes "finish\n\nno\nno\n")) 2 (codes "bad script line 6\n")
unfolding fields words digits
a_bad_line_after_the_end = too_late _ _ (from_arguments (tree_U ∷ [])) refl refl refl refl refl

a_tab_after_the_end : IsAnswer (on_arguments (text_U ++ codes "finish\n\n\t\nno\n")) 2 (codes "bad script line 6\n")
unfolding fields words digits
a_tab_after_the_end = too_late _ _ (from_arguments (tree_U ∷ [])) refl refl refl refl refl

an_empty_order_after_the_end : IsAnswer (on_arguments (text_U ++ codes "finish\n\norder\nno\n")) 2 (codes "bad script line 6\n")
unfolding fields words digits
an_empty_order_after_the_end = too_late _ _ (from_arguments (tree_U ∷ [])) refl refl refl refl refl

an_edit_of_an_unknown_tree : IsAnswer (codes "edit R A\nfinish\n") 2 (codes "bad script line 1\n")
unfolding fields words digits
an_edit_of_an_unknown_tree = bad _ _ [] (Edit (codes "R") (A [])) refl refl refl refl

an_edit_with_one_field_first : IsAnswer (codes "edit R\nfinish\n") 2 (codes "bad script line 1\n")
unfolding fields words digits
an_edit_with_one_field_first = unread _ _ [] refl refl refl

finish_first : IsAnswer (codes "finish\nfinish\n") 2 (codes "bad script line 1\n")
unfolding fields words digits
finish_first = too_early _ _ [] refl refl refl refl

a_removal_first : IsAnswer (codes "remove R/1 COMMA\nfinish\n") 2 (codes "bad script line 1\n")
unfolding fields words digits
a_removal_first = bad _ _ [] (Remove (R (1 ∷ [])) COMMA) refl refl refl refl

an_order_first : IsAnswer (codes "order 0\nfinish\n") 2 (codes "bad script line 1\n")
unfolding fields words digits
an_order_first = bad _ _ [] (Order (0 ∷ [])) refl refl refl refl
