-- Worked scripts that make an edit: what changes do, and what becomes of one beside another.
use Rattle.std.specs.Prelude.{[], ◌∷◌, ◌++◌, codes, refl}
use Rattle.std.specs.Fmt.{digits}
use Rattle.script_lines.specs.Line.{fields, words}
use Rattle.script_lines.specs.ScriptLine.{Tree, First, Last, Before, After, Insert, Delete, Replace, Range}
use Rattle.syned_run.specs.inner.SynedAnswer.{IsAnswer}
use Rattle.syned_run.proofs.ScriptTrees.{ref, literal, R, U, V, X, Y, from_arguments, on_arguments, text_U, text_V, text_X, text_Y, tree_U, tree_V, tree_X, tree_Y}
use Rattle.syned_run.proofs.ScriptAnswers.{edited}

two_tokens_for_two_literals : IsAnswer (on_arguments (text_U ++ codes "replace R/1 U/0\nreplace R/4 U/0\nfinish\n")) 0 (codes "text \"(_, _)\"\nchanged 1 4\n")
unfolding fields words digits
two_tokens_for_two_literals = edited _ _ (from_arguments (tree_U ∷ Replace (R (1 ∷ [])) (U (0 ∷ []) ∷ []) ∷ Replace (R (4 ∷ [])) (U (0 ∷ []) ∷ []) ∷ [])) refl refl refl refl refl

one_node_for_two_literals : IsAnswer (on_arguments (codes "tree A3 (LITERAL INT_NUMBER\"3\")\nreplace R/1 A3\nreplace R/4 A3\nfinish\n")) 0 (codes "text \"(3, 3)\"\nchanged 1 4\n")
unfolding fields words digits
one_node_for_two_literals = edited _ _ (from_arguments (Tree (codes "A3") (literal (codes "3")) ∷ Replace (R (1 ∷ [])) (ref (codes "A3") [] ∷ []) ∷ Replace (R (4 ∷ [])) (ref (codes "A3") [] ∷ []) ∷ [])) refl refl refl refl refl

an_insert_before_each_literal : IsAnswer (on_arguments (text_V ++ codes "insert before R/1 V\ninsert before R/4 V\nfinish\n")) 0 (codes "text \"(()1, ()2)\"\nchanged 1 5\n")
unfolding fields words digits
an_insert_before_each_literal = edited _ _ (from_arguments (tree_V ∷ Insert (Before (R (1 ∷ []))) (V [] ∷ []) ∷ Insert (Before (R (4 ∷ []))) (V [] ∷ []) ∷ [])) refl refl refl refl refl

an_insert_after_a_deleted_node_is_dropped : IsAnswer (on_arguments (text_X ++ codes "delete R/1\ninsert after R/1 X/0\nfinish\n")) 0 (codes "text \"(, 2)\"\nchanged\n")
unfolding fields words digits
an_insert_after_a_deleted_node_is_dropped = edited _ _ (from_arguments (tree_X ∷ Delete (R (1 ∷ [])) ∷ Insert (After (R (1 ∷ []))) (X (0 ∷ []) ∷ []) ∷ [])) refl refl refl refl refl

an_insert_after_a_deleted_token : IsAnswer (on_arguments (text_X ++ codes "delete R/2\ninsert after R/2 X/0\nfinish\n")) 0 (codes "text \"(1x 2)\"\nchanged 2\n")
unfolding fields words digits
an_insert_after_a_deleted_token = edited _ _ (from_arguments (tree_X ∷ Delete (R (2 ∷ [])) ∷ Insert (After (R (2 ∷ []))) (X (0 ∷ []) ∷ []) ∷ [])) refl refl refl refl refl

two_nodes_for_each_other : IsAnswer (on_arguments (codes "replace R/1 R/4\nreplace R/4 R/1\nfinish\n")) 0 (codes "text \"(2, 1)\"\nchanged 1 4\n")
unfolding fields words digits
two_nodes_for_each_other = edited _ _ (from_arguments (Replace (R (1 ∷ [])) (R (4 ∷ []) ∷ []) ∷ Replace (R (4 ∷ [])) (R (1 ∷ []) ∷ []) ∷ [])) refl refl refl refl refl

a_deletion_stays_one : IsAnswer (on_arguments (text_X ++ text_Y ++ codes "replace R/1 X/0\ndelete R/1\nreplace R/1 Y/0\nfinish\n")) 0 (codes "text \"(, 2)\"\nchanged\n")
unfolding fields words digits
a_deletion_stays_one = edited _ _ (from_arguments (tree_X ∷ tree_Y ∷ Replace (R (1 ∷ [])) (X (0 ∷ []) ∷ []) ∷ Delete (R (1 ∷ [])) ∷ Replace (R (1 ∷ [])) (Y (0 ∷ []) ∷ []) ∷ [])) refl refl refl refl refl

two_inserts_at_one_gap_stand_as_they_were_recorded : IsAnswer (on_arguments (text_X ++ text_Y ++ codes "insert after R/0 X/0\ninsert after R/0 Y/0\nfinish\n")) 0 (codes "text \"(xy1, 2)\"\nchanged 1 2\n")
unfolding fields words digits
two_inserts_at_one_gap_stand_as_they_were_recorded = edited _ _ (from_arguments (tree_X ∷ tree_Y ∷ Insert (After (R (0 ∷ []))) (X (0 ∷ []) ∷ []) ∷ Insert (After (R (0 ∷ []))) (Y (0 ∷ []) ∷ []) ∷ [])) refl refl refl refl refl

one_node_for_the_root_as_a_range : IsAnswer (on_arguments (text_V ++ codes "range R R V\nfinish\n")) 0 (codes "text \"()\"\nchanged .\n")
unfolding fields words digits
one_node_for_the_root_as_a_range = edited _ _ (from_arguments (tree_V ∷ Range (R []) (R []) (V [] ∷ []) ∷ [])) refl refl refl refl refl

a_replacement_in_a_replaced_node_is_dropped : IsAnswer (on_arguments (text_X ++ text_U ++ codes "replace R/1/0 X/0\nreplace R/1 U/0\nfinish\n")) 0 (codes "text \"(_, 2)\"\nchanged 1\n")
unfolding fields words digits
a_replacement_in_a_replaced_node_is_dropped = edited _ _ (from_arguments (tree_X ∷ tree_U ∷ Replace (R (1 ∷ 0 ∷ [])) (X (0 ∷ []) ∷ []) ∷ Replace (R (1 ∷ [])) (U (0 ∷ []) ∷ []) ∷ [])) refl refl refl refl refl

an_insert_after_the_last_child : IsAnswer (on_arguments (text_X ++ codes "insert last R X/0\nfinish\n")) 0 (codes "text \"(1, 2)x\"\nchanged 6\n")
unfolding fields words digits
an_insert_after_the_last_child = edited _ _ (from_arguments (tree_X ∷ Insert (Last (R [])) (X (0 ∷ []) ∷ []) ∷ [])) refl refl refl refl refl

an_insert_after_the_last_of_a_range_is_dropped : IsAnswer (on_arguments (text_X ++ text_Y ++ codes "range R/2 R/3 X/0\ninsert after R/3 Y/0\nfinish\n")) 0 (codes "text \"(1x2)\"\nchanged 2\n")
unfolding fields words digits
an_insert_after_the_last_of_a_range_is_dropped = edited _ _ (from_arguments (tree_X ∷ tree_Y ∷ Range (R (2 ∷ [])) (R (3 ∷ [])) (X (0 ∷ []) ∷ []) ∷ Insert (After (R (3 ∷ []))) (Y (0 ∷ []) ∷ []) ∷ [])) refl refl refl refl refl

an_insert_before_a_range : IsAnswer (on_arguments (text_X ++ text_Y ++ codes "range R/2 R/3 X/0\ninsert after R/1 Y/0\nfinish\n")) 0 (codes "text \"(1yx2)\"\nchanged 2 3\n")
unfolding fields words digits
an_insert_before_a_range = edited _ _ (from_arguments (tree_X ∷ tree_Y ∷ Range (R (2 ∷ [])) (R (3 ∷ [])) (X (0 ∷ []) ∷ []) ∷ Insert (After (R (1 ∷ []))) (Y (0 ∷ []) ∷ []) ∷ [])) refl refl refl refl refl

two_inserted_at_once_keep_their_order : IsAnswer (on_arguments (text_X ++ text_Y ++ codes "insert after R/0 X/0 Y/0\nfinish\n")) 0 (codes "text \"(xy1, 2)\"\nchanged 1 2\n")
unfolding fields words digits
two_inserted_at_once_keep_their_order = edited _ _ (from_arguments (tree_X ∷ tree_Y ∷ Insert (After (R (0 ∷ []))) (X (0 ∷ []) ∷ Y (0 ∷ []) ∷ []) ∷ [])) refl refl refl refl refl

a_range_of_one_element_is_a_replacement_by_many : IsAnswer (on_arguments (text_X ++ text_Y ++ codes "range R/1 R/1 X/0 Y/0\nfinish\n")) 0 (codes "text \"(xy, 2)\"\nchanged 1 2\n")
unfolding fields words digits
a_range_of_one_element_is_a_replacement_by_many = edited _ _ (from_arguments (tree_X ∷ tree_Y ∷ Range (R (1 ∷ [])) (R (1 ∷ [])) (X (0 ∷ []) ∷ Y (0 ∷ []) ∷ []) ∷ [])) refl refl refl refl refl

a_range_of_one_element_is_its_deletion : IsAnswer (on_arguments (text_X ++ codes "replace R/1 X/0\nrange R/1 R/1\nfinish\n")) 0 (codes "text \"(, 2)\"\nchanged\n")
unfolding fields words digits
a_range_of_one_element_is_its_deletion = edited _ _ (from_arguments (tree_X ∷ Replace (R (1 ∷ [])) (X (0 ∷ []) ∷ []) ∷ Range (R (1 ∷ [])) (R (1 ∷ [])) [] ∷ [])) refl refl refl refl refl

nothing_for_an_element : IsAnswer (on_arguments (codes "replace R/1\nfinish\n")) 0 (codes "text \"(, 2)\"\nchanged\n")
unfolding fields words digits
nothing_for_an_element = edited _ _ (from_arguments (Replace (R (1 ∷ [])) [] ∷ [])) refl refl refl refl refl

inserts_of_nothing : IsAnswer (on_arguments (codes "insert first R\ninsert after R/5\nfinish\n")) 0 (codes "text \"(1, 2)\"\nchanged\n")
unfolding fields words digits
inserts_of_nothing = edited _ _ (from_arguments (Insert (First (R [])) [] ∷ Insert (After (R (5 ∷ []))) [] ∷ [])) refl refl refl refl refl
