-- Worked scripts with a call that is refused.
use Rattle.std.specs.Prelude.{[], ◌∷◌, ◌++◌, codes, refl}
use Rattle.std.specs.Fmt.{digits}
use Rattle.cst_core.specs.Kinds.{ARG_LIST, COMMA}
use Rattle.script_lines.specs.Line.{fields, words}
use Rattle.script_lines.specs.ScriptLine.{Tree, Edit, Map, First, Last, Insert, Delete, Replace, Range, Remove}
use Rattle.syntax_editor.specs.EditError.TheVariants.{Intersecting}
use Rattle.syntax_editor.specs.MapError.TheVariants.{NotYounger, OtherShape}
use Rattle.syntax_editor.specs.declared.error.RecordError.TheVariants.{BadRange, DeletesRoot, Foreign, RootReplacement}
use Rattle.syned_script.specs.declared.refusal.Refusal.TheVariants as refusal
use Rattle.syned_run.specs.inner.SynedAnswer.{IsAnswer}
use Rattle.syned_run.proofs.ScriptTrees.{node, A, N, R, U, V, X, Y, from_arguments, on_arguments, text_A, text_N, text_U, text_V, text_X, text_Y, tree_A, tree_N, tree_U, tree_V, tree_X, tree_Y}
use Rattle.syned_run.proofs.ScriptAnswers.{refused, not_carried_out}

token_for_the_root : IsAnswer (on_arguments (text_U ++ codes "replace R U/0\nfinish\n")) 1 (codes "refused RootReplacement\n")
unfolding fields words digits
token_for_the_root = refused _ _ (from_arguments (tree_U ∷ [])) (Replace (R []) (U (0 ∷ []) ∷ [])) (refusal.Record RootReplacement) refl refl refl refl

element_of_another_tree_replaced : IsAnswer (on_arguments (text_U ++ codes "replace U/0 R/1\nfinish\n")) 1 (codes "refused Foreign\n")
unfolding fields words digits
element_of_another_tree_replaced = refused _ _ (from_arguments (tree_U ∷ [])) (Replace (U (0 ∷ [])) (R (1 ∷ []) ∷ [])) (refusal.Record Foreign) refl refl refl refl

tree_that_an_editor_of_an_inner_node_was_made_of : IsAnswer (text_A ++ codes "edit R A/1\nreplace A/1 A/4\nfinish\n") 1 (codes "refused Foreign\n")
unfolding fields words digits
tree_that_an_editor_of_an_inner_node_was_made_of = refused _ _ (tree_A ∷ Edit (codes "R") (A (1 ∷ [])) ∷ []) (Replace (A (1 ∷ [])) (A (4 ∷ []) ∷ [])) (refusal.Record Foreign) refl refl refl refl

refusal_before_a_bad_line : IsAnswer (on_arguments (text_U ++ codes "replace U/0 R/1\nno word\nfinish\n")) 1 (codes "refused Foreign\n")
unfolding fields words digits
refusal_before_a_bad_line = refused _ _ (from_arguments (tree_U ∷ [])) (Replace (U (0 ∷ [])) (R (1 ∷ []) ∷ [])) (refusal.Record Foreign) refl refl refl refl

refusal_before_a_missing_end : IsAnswer (codes "tree A (ARG_LIST)\n" ++ text_U ++ codes "edit R A\nreplace R U/0\n") 1 (codes "refused RootReplacement\n")
unfolding fields words digits
refusal_before_a_missing_end = refused _ _ (Tree (codes "A") (node ARG_LIST []) ∷ tree_U ∷ Edit (codes "R") (A []) ∷ []) (Replace (R []) (U (0 ∷ []) ∷ [])) (refusal.Record RootReplacement) refl refl refl refl

the_root_is_not_deleted : IsAnswer (on_arguments (codes "delete R\nfinish\n")) 1 (codes "refused DeletesRoot\n")
unfolding fields words digits
the_root_is_not_deleted = refused _ _ (from_arguments []) (Delete (R [])) (refusal.Record DeletesRoot) refl refl refl refl

the_root_is_not_deleted_as_a_range : IsAnswer (on_arguments (codes "range R R\nfinish\n")) 1 (codes "refused DeletesRoot\n")
unfolding fields words digits
the_root_is_not_deleted_as_a_range = refused _ _ (from_arguments []) (Range (R []) (R []) []) (refusal.Record DeletesRoot) refl refl refl refl

no_two_nodes_for_the_root : IsAnswer (on_arguments (text_V ++ codes "replace R V V\nfinish\n")) 1 (codes "refused RootReplacement\n")
unfolding fields words digits
no_two_nodes_for_the_root = refused _ _ (from_arguments (tree_V ∷ [])) (Replace (R []) (V [] ∷ V [] ∷ [])) (refusal.Record RootReplacement) refl refl refl refl

nothing_for_the_root : IsAnswer (on_arguments (codes "replace R\nfinish\n")) 1 (codes "refused RootReplacement\n")
unfolding fields words digits
nothing_for_the_root = refused _ _ (from_arguments []) (Replace (R []) []) (refusal.Record RootReplacement) refl refl refl refl

no_token_for_the_root_as_a_range : IsAnswer (on_arguments (text_U ++ codes "range R R U/0\nfinish\n")) 1 (codes "refused RootReplacement\n")
unfolding fields words digits
no_token_for_the_root_as_a_range = refused _ _ (from_arguments (tree_U ∷ [])) (Range (R []) (R []) (U (0 ∷ []) ∷ [])) (refusal.Record RootReplacement) refl refl refl refl

a_range_from_the_end : IsAnswer (on_arguments (codes "range R/4 R/1\nfinish\n")) 1 (codes "refused BadRange\n")
unfolding fields words digits
a_range_from_the_end = refused _ _ (from_arguments []) (Range (R (4 ∷ [])) (R (1 ∷ [])) []) (refusal.Record BadRange) refl refl refl refl

a_range_of_no_siblings : IsAnswer (on_arguments (codes "range R/0 R/1/0\nfinish\n")) 1 (codes "refused BadRange\n")
unfolding fields words digits
a_range_of_no_siblings = refused _ _ (from_arguments []) (Range (R (0 ∷ [])) (R (1 ∷ 0 ∷ [])) []) (refusal.Record BadRange) refl refl refl refl

a_range_from_the_root_down : IsAnswer (on_arguments (codes "range R R/1\nfinish\n")) 1 (codes "refused BadRange\n")
unfolding fields words digits
a_range_from_the_root_down = refused _ _ (from_arguments []) (Range (R []) (R (1 ∷ [])) []) (refusal.Record BadRange) refl refl refl refl

a_range_to_another_tree : IsAnswer (on_arguments (text_X ++ codes "range R/1 X/0\nfinish\n")) 1 (codes "refused Foreign\n")
unfolding fields words digits
a_range_to_another_tree = refused _ _ (from_arguments (tree_X ∷ [])) (Range (R (1 ∷ [])) (X (0 ∷ [])) []) (refusal.Record Foreign) refl refl refl refl

a_range_from_another_tree : IsAnswer (on_arguments (text_X ++ codes "range X/0 R/1\nfinish\n")) 1 (codes "refused Foreign\n")
unfolding fields words digits
a_range_from_another_tree = refused _ _ (from_arguments (tree_X ∷ [])) (Range (X (0 ∷ [])) (R (1 ∷ [])) []) (refusal.Record Foreign) refl refl refl refl

an_insert_into_another_tree : IsAnswer (on_arguments (text_V ++ text_X ++ codes "insert first V X/0\nfinish\n")) 1 (codes "refused Foreign\n")
unfolding fields words digits
an_insert_into_another_tree = refused _ _ (from_arguments (tree_V ∷ tree_X ∷ [])) (Insert (First (V [])) (X (0 ∷ []) ∷ [])) (refusal.Record Foreign) refl refl refl refl

several_inserted_into_another_tree : IsAnswer (on_arguments (text_V ++ text_X ++ codes "insert last V X/0 X/0\nfinish\n")) 1 (codes "refused Foreign\n")
unfolding fields words digits
several_inserted_into_another_tree = refused _ _ (from_arguments (tree_V ∷ tree_X ∷ [])) (Insert (Last (V [])) (X (0 ∷ []) ∷ X (0 ∷ []) ∷ [])) (refusal.Record Foreign) refl refl refl refl

a_deletion_in_another_tree : IsAnswer (on_arguments (text_X ++ codes "delete X/0\nfinish\n")) 1 (codes "refused Foreign\n")
unfolding fields words digits
a_deletion_in_another_tree = refused _ _ (from_arguments (tree_X ∷ [])) (Delete (X (0 ∷ []))) (refusal.Record Foreign) refl refl refl refl

removal_of_the_root : IsAnswer (on_arguments (codes "remove R COMMA\nfinish\n")) 1 (codes "refused DeletesRoot\n")
unfolding fields words digits
removal_of_the_root = refused _ _ (from_arguments []) (Remove (R []) COMMA) (refusal.Record DeletesRoot) refl refl refl refl

removal_of_an_element_of_another_tree : IsAnswer (on_arguments (text_V ++ codes "remove V/0 COMMA\nfinish\n")) 1 (codes "refused Foreign\n")
unfolding fields words digits
removal_of_an_element_of_another_tree = refused _ _ (from_arguments (tree_V ∷ [])) (Remove (V (0 ∷ [])) COMMA) (refusal.Record Foreign) refl refl refl refl

a_copy_of_another_shape : IsAnswer (on_arguments (text_N ++ codes "map N R N/1\nfinish\n")) 1 (codes "refused OtherShape\n")
unfolding fields words digits
a_copy_of_another_shape = refused _ _ (from_arguments (tree_N ∷ [])) (Map (N []) (R []) (N (1 ∷ []))) (refusal.Map OtherShape) refl refl refl refl

a_copy_of_a_copy_in_the_tree_that_was_copied : IsAnswer (on_arguments (text_N ++ codes "map N R/1 N/1\nmap R N/1 R/1\nfinish\n")) 1 (codes "refused NotYounger\n")
unfolding fields words digits
a_copy_of_a_copy_in_the_tree_that_was_copied = refused _ _ (from_arguments (tree_N ∷ Map (N []) (R (1 ∷ [])) (N (1 ∷ [])) ∷ [])) (Map (R []) (N (1 ∷ [])) (R (1 ∷ []))) (refusal.Map NotYounger) refl refl refl refl

a_node_that_is_deleted_and_replaced_by_two : IsAnswer (on_arguments (text_X ++ text_Y ++ codes "delete R/1\nreplace R/1 X/0 Y/0\nfinish\n")) 1 (codes "refused Intersecting 0 1\n")
unfolding fields words digits
a_node_that_is_deleted_and_replaced_by_two = not_carried_out _ _ (from_arguments (tree_X ∷ tree_Y ∷ Delete (R (1 ∷ [])) ∷ Replace (R (1 ∷ [])) (X (0 ∷ []) ∷ Y (0 ∷ []) ∷ []) ∷ [])) (refusal.Edit (Intersecting 0 1)) refl refl refl refl

two_ranges_that_meet : IsAnswer (on_arguments (codes "range R/1 R/3\nrange R/3 R/4\nfinish\n")) 1 (codes "refused Intersecting 0 1\n")
unfolding fields words digits
two_ranges_that_meet = not_carried_out _ _ (from_arguments (Range (R (1 ∷ [])) (R (3 ∷ [])) [] ∷ Range (R (3 ∷ [])) (R (4 ∷ [])) [] ∷ [])) (refusal.Edit (Intersecting 0 1)) refl refl refl refl

a_replacement_by_many_takes_up_no_other : IsAnswer (on_arguments (text_X ++ text_Y ++ codes "replace R/1 X/0 X/0\nreplace R/1 Y/0\nfinish\n")) 1 (codes "refused Intersecting 0 1\n")
unfolding fields words digits
a_replacement_by_many_takes_up_no_other = not_carried_out _ _ (from_arguments (tree_X ∷ tree_Y ∷ Replace (R (1 ∷ [])) (X (0 ∷ []) ∷ X (0 ∷ []) ∷ []) ∷ Replace (R (1 ∷ [])) (Y (0 ∷ []) ∷ []) ∷ [])) (refusal.Edit (Intersecting 0 1)) refl refl refl refl

one_separator_wanted_by_two_removals : IsAnswer (on_arguments (codes "remove R/1 COMMA\nremove R/4 COMMA\nfinish\n")) 1 (codes "refused Intersecting 0 1\n")
unfolding fields words digits
one_separator_wanted_by_two_removals = not_carried_out _ _ (from_arguments (Remove (R (1 ∷ [])) COMMA ∷ Remove (R (4 ∷ [])) COMMA ∷ [])) (refusal.Edit (Intersecting 0 1)) refl refl refl refl
