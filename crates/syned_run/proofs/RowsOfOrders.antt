-- Worked scripts with an order of their changes.
use Rattle.std.specs.Prelude.{[], ◌∷◌, ◌++◌, codes, refl}
use Rattle.std.specs.Fmt.{digits}
use Rattle.script_lines.specs.Line.{fields, words}
use Rattle.script_lines.specs.ScriptLine.{Last, Before, After, Insert, Delete, Replace, Order}
use Rattle.syned_run.proofs.ScriptOrders.{edited_by, not_each_once, gap_out_of_order, token_too_early}
use Rattle.syned_run.specs.inner.SynedAnswer.{IsAnswer}
use Rattle.syned_run.proofs.ScriptTrees.{R, X, Y, from_arguments, on_arguments, text_X, text_Y, tree_X, tree_Y}

two_inserts_of_one_gap_the_last_one_first : IsAnswer (on_arguments (text_X ++ text_Y ++ codes "insert after R/0 X/0\ninsert after R/0 Y/0\norder 1 0\nfinish\n")) 0 (codes "text \"(xy1, 2)\"\nchanged 1 2\n")
unfolding fields words digits
two_inserts_of_one_gap_the_last_one_first = edited_by _ _ (from_arguments (tree_X ∷ tree_Y ∷ Insert (After (R (0 ∷ []))) (X (0 ∷ []) ∷ []) ∷ Insert (After (R (0 ∷ []))) (Y (0 ∷ []) ∷ []) ∷ Order (1 ∷ 0 ∷ []) ∷ [])) (1 ∷ 0 ∷ []) refl refl refl refl refl refl refl

one_gap_by_two_names_the_last_one_first : IsAnswer (on_arguments (text_X ++ text_Y ++ codes "insert last R X/0\ninsert after R/5 Y/0\norder 1 0\nfinish\n")) 0 (codes "text \"(1, 2)xy\"\nchanged 6 7\n")
unfolding fields words digits
one_gap_by_two_names_the_last_one_first = edited_by _ _ (from_arguments (tree_X ∷ tree_Y ∷ Insert (Last (R [])) (X (0 ∷ []) ∷ []) ∷ Insert (After (R (5 ∷ []))) (Y (0 ∷ []) ∷ []) ∷ Order (1 ∷ 0 ∷ []) ∷ [])) (1 ∷ 0 ∷ []) refl refl refl refl refl refl refl

two_gaps_of_one_child : IsAnswer (on_arguments (text_X ++ text_Y ++ codes "insert before R/1 X/0\ninsert after R/1 Y/0\norder 1 0\nfinish\n")) 0 (codes "text \"(x1y, 2)\"\nchanged 1 3\n")
unfolding fields words digits
two_gaps_of_one_child = edited_by _ _ (from_arguments (tree_X ∷ tree_Y ∷ Insert (Before (R (1 ∷ []))) (X (0 ∷ []) ∷ []) ∷ Insert (After (R (1 ∷ []))) (Y (0 ∷ []) ∷ []) ∷ Order (1 ∷ 0 ∷ []) ∷ [])) (1 ∷ 0 ∷ []) refl refl refl refl refl refl refl

three_inserts_of_one_gap_the_last_one_first : IsAnswer (on_arguments (text_X ++ text_Y ++ codes "insert after R/0 X/0\ninsert after R/0 Y/0\ninsert after R/0 X/0\norder 2 1 0\nfinish\n")) 0 (codes "text \"(xyx1, 2)\"\nchanged 1 2 3\n")
unfolding fields words digits
three_inserts_of_one_gap_the_last_one_first = edited_by _ _ (from_arguments (tree_X ∷ tree_Y ∷ Insert (After (R (0 ∷ []))) (X (0 ∷ []) ∷ []) ∷ Insert (After (R (0 ∷ []))) (Y (0 ∷ []) ∷ []) ∷ Insert (After (R (0 ∷ []))) (X (0 ∷ []) ∷ []) ∷ Order (2 ∷ 1 ∷ 0 ∷ []) ∷ [])) (2 ∷ 1 ∷ 0 ∷ []) refl refl refl refl refl refl refl

a_dropped_change_is_in_no_order : IsAnswer (on_arguments (text_X ++ text_Y ++ codes "delete R/1\ninsert after R/1 X/0\norder 0\nfinish\n")) 0 (codes "text \"(, 2)\"\nchanged\n")
unfolding fields words digits
a_dropped_change_is_in_no_order = edited_by _ _ (from_arguments (tree_X ∷ tree_Y ∷ Delete (R (1 ∷ [])) ∷ Insert (After (R (1 ∷ []))) (X (0 ∷ []) ∷ []) ∷ Order (0 ∷ []) ∷ [])) (0 ∷ []) refl refl refl refl refl refl refl

an_insert_after_a_token_comes_before_its_deletion : IsAnswer (on_arguments (text_X ++ text_Y ++ codes "delete R/2\ninsert after R/2 X/0\norder 1 0\nfinish\n")) 0 (codes "text \"(1x 2)\"\nchanged 2\n")
unfolding fields words digits
an_insert_after_a_token_comes_before_its_deletion = edited_by _ _ (from_arguments (tree_X ∷ tree_Y ∷ Delete (R (2 ∷ [])) ∷ Insert (After (R (2 ∷ []))) (X (0 ∷ []) ∷ []) ∷ Order (1 ∷ 0 ∷ []) ∷ [])) (1 ∷ 0 ∷ []) refl refl refl refl refl refl refl

an_insert_after_a_token_comes_before_its_replacement_by_two : IsAnswer (on_arguments (text_X ++ text_Y ++ codes "replace R/2 Y/0 Y/0\ninsert after R/2 X/0\norder 1 0\nfinish\n")) 0 (codes "text \"(1yyx 2)\"\nchanged 2 3 4\n")
unfolding fields words digits
an_insert_after_a_token_comes_before_its_replacement_by_two = edited_by _ _ (from_arguments (tree_X ∷ tree_Y ∷ Replace (R (2 ∷ [])) (Y (0 ∷ []) ∷ Y (0 ∷ []) ∷ []) ∷ Insert (After (R (2 ∷ []))) (X (0 ∷ []) ∷ []) ∷ Order (1 ∷ 0 ∷ []) ∷ [])) (1 ∷ 0 ∷ []) refl refl refl refl refl refl refl

an_insert_before_a_replaced_token_may_come_after_it : IsAnswer (on_arguments (text_X ++ text_Y ++ codes "insert before R/2 X/0\nreplace R/2 Y/0\norder 1 0\nfinish\n")) 0 (codes "text \"(1xy 2)\"\nchanged 2 3\n")
unfolding fields words digits
an_insert_before_a_replaced_token_may_come_after_it = edited_by _ _ (from_arguments (tree_X ∷ tree_Y ∷ Insert (Before (R (2 ∷ []))) (X (0 ∷ []) ∷ []) ∷ Replace (R (2 ∷ [])) (Y (0 ∷ []) ∷ []) ∷ Order (1 ∷ 0 ∷ []) ∷ [])) (1 ∷ 0 ∷ []) refl refl refl refl refl refl refl

two_nodes_for_each_other_by_1_0 : IsAnswer (on_arguments (codes "replace R/1 R/4\nreplace R/4 R/1\norder 1 0\nfinish\n")) 0 (codes "text \"(2, 1)\"\nchanged 1 4\n")
unfolding fields words digits
two_nodes_for_each_other_by_1_0 = edited_by _ _ (from_arguments (Replace (R (1 ∷ [])) (R (4 ∷ []) ∷ []) ∷ Replace (R (4 ∷ [])) (R (1 ∷ []) ∷ []) ∷ Order (1 ∷ 0 ∷ []) ∷ [])) (1 ∷ 0 ∷ []) refl refl refl refl refl refl refl

an_order_directly_after_the_edit : IsAnswer (on_arguments (text_X ++ text_Y ++ codes "order 1 0\ninsert before R/1 X/0\ninsert before R/4 Y/0\nfinish\n")) 0 (codes "text \"(x1, y2)\"\nchanged 1 5\n")
unfolding fields words digits
an_order_directly_after_the_edit = edited_by _ _ (from_arguments (tree_X ∷ tree_Y ∷ Order (1 ∷ 0 ∷ []) ∷ Insert (Before (R (1 ∷ []))) (X (0 ∷ []) ∷ []) ∷ Insert (Before (R (4 ∷ []))) (Y (0 ∷ []) ∷ []) ∷ [])) (1 ∷ 0 ∷ []) refl refl refl refl refl refl refl

an_order_between_changes : IsAnswer (on_arguments (text_X ++ text_Y ++ codes "insert before R/1 X/0\norder 1 0\ninsert before R/4 Y/0\nfinish\n")) 0 (codes "text \"(x1, y2)\"\nchanged 1 5\n")
unfolding fields words digits
an_order_between_changes = edited_by _ _ (from_arguments (tree_X ∷ tree_Y ∷ Insert (Before (R (1 ∷ []))) (X (0 ∷ []) ∷ []) ∷ Order (1 ∷ 0 ∷ []) ∷ Insert (Before (R (4 ∷ []))) (Y (0 ∷ []) ∷ []) ∷ [])) (1 ∷ 0 ∷ []) refl refl refl refl refl refl refl

no_change_and_no_number : IsAnswer (on_arguments (codes "order\nfinish\n")) 0 (codes "text \"(1, 2)\"\nchanged\n")
unfolding fields words digits
no_change_and_no_number = edited_by _ _ (from_arguments (Order [] ∷ [])) [] refl refl refl refl refl refl refl

spaces_in_an_order : IsAnswer (on_arguments (text_X ++ text_Y ++ codes "insert before R/1 X/0\ninsert before R/4 Y/0\n  order   1    0  \nfinish\n")) 0 (codes "text \"(x1, y2)\"\nchanged 1 5\n")
unfolding fields words digits
spaces_in_an_order = edited_by _ _ (from_arguments (tree_X ∷ tree_Y ∷ Insert (Before (R (1 ∷ []))) (X (0 ∷ []) ∷ []) ∷ Insert (Before (R (4 ∷ []))) (Y (0 ∷ []) ∷ []) ∷ Order (1 ∷ 0 ∷ []) ∷ [])) (1 ∷ 0 ∷ []) refl refl refl refl refl refl refl

two_inserts_of_one_gap_as_they_were_recorded : IsAnswer (on_arguments (text_X ++ text_Y ++ codes "insert after R/0 X/0\ninsert after R/0 Y/0\norder 0 1\nfinish\n")) 1 (codes "refused GapOutOfOrder\n")
unfolding fields words digits
two_inserts_of_one_gap_as_they_were_recorded = gap_out_of_order _ _ (from_arguments (tree_X ∷ tree_Y ∷ Insert (After (R (0 ∷ []))) (X (0 ∷ []) ∷ []) ∷ Insert (After (R (0 ∷ []))) (Y (0 ∷ []) ∷ []) ∷ Order (0 ∷ 1 ∷ []) ∷ [])) (0 ∷ 1 ∷ []) refl refl refl refl refl refl refl refl

a_dropped_change_by_0_1 : IsAnswer (on_arguments (text_X ++ text_Y ++ codes "delete R/1\ninsert after R/1 X/0\norder 0 1\nfinish\n")) 1 (codes "refused NotEachOnce\n")
unfolding fields words digits
a_dropped_change_by_0_1 = not_each_once _ _ (from_arguments (tree_X ∷ tree_Y ∷ Delete (R (1 ∷ [])) ∷ Insert (After (R (1 ∷ []))) (X (0 ∷ []) ∷ []) ∷ Order (0 ∷ 1 ∷ []) ∷ [])) (0 ∷ 1 ∷ []) 1 refl refl refl refl refl refl

a_deletion_and_no_number : IsAnswer (on_arguments (text_X ++ text_Y ++ codes "delete R/1\ninsert after R/1 X/0\norder\nfinish\n")) 1 (codes "refused NotEachOnce\n")
unfolding fields words digits
a_deletion_and_no_number = not_each_once _ _ (from_arguments (tree_X ∷ tree_Y ∷ Delete (R (1 ∷ [])) ∷ Insert (After (R (1 ∷ []))) (X (0 ∷ []) ∷ []) ∷ Order [] ∷ [])) [] 0 refl refl refl refl refl refl

the_largest_number_in_an_order : IsAnswer (on_arguments (text_X ++ text_Y ++ codes "insert before R/1 X/0\ninsert before R/4 Y/0\norder 0 1 18446744073709551615\nfinish\n")) 1 (codes "refused NotEachOnce\n")
unfolding fields words digits
the_largest_number_in_an_order = not_each_once _ _ (from_arguments (tree_X ∷ tree_Y ∷ Insert (Before (R (1 ∷ []))) (X (0 ∷ []) ∷ []) ∷ Insert (Before (R (4 ∷ []))) (Y (0 ∷ []) ∷ []) ∷ Order (0 ∷ 1 ∷ 18446744073709551615 ∷ []) ∷ [])) (0 ∷ 1 ∷ 18446744073709551615 ∷ []) 18446744073709551615 refl refl refl refl refl refl

an_insert_after_a_token_comes_after_its_deletion : IsAnswer (on_arguments (text_X ++ text_Y ++ codes "delete R/2\ninsert after R/2 X/0\norder 0 1\nfinish\n")) 1 (codes "refused TokenTooEarly\n")
unfolding fields words digits
an_insert_after_a_token_comes_after_its_deletion = token_too_early _ _ (from_arguments (tree_X ∷ tree_Y ∷ Delete (R (2 ∷ [])) ∷ Insert (After (R (2 ∷ []))) (X (0 ∷ []) ∷ []) ∷ Order (0 ∷ 1 ∷ []) ∷ [])) (0 ∷ 1 ∷ []) refl refl refl refl refl refl refl refl refl

one_gap_by_two_names : IsAnswer (on_arguments (text_X ++ text_Y ++ codes "insert last R X/0\ninsert after R/5 Y/0\norder 0 1\nfinish\n")) 1 (codes "refused GapOutOfOrder\n")
unfolding fields words digits
one_gap_by_two_names = gap_out_of_order _ _ (from_arguments (tree_X ∷ tree_Y ∷ Insert (Last (R [])) (X (0 ∷ []) ∷ []) ∷ Insert (After (R (5 ∷ []))) (Y (0 ∷ []) ∷ []) ∷ Order (0 ∷ 1 ∷ []) ∷ [])) (0 ∷ 1 ∷ []) refl refl refl refl refl refl refl refl
