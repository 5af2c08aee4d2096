-- Worked scripts that make an edit: list elements removed with their separators, and notes.
use Rattle.std.specs.Prelude.{[], ◌∷◌, ◌++◌, codes, refl}
use Rattle.std.specs.Fmt.{digits}
use Rattle.cst_core.specs.Kinds.{COMMA, SEMICOLON, WHITESPACE}
use Rattle.script_lines.specs.Line.{fields, words}
use Rattle.script_lines.specs.ScriptLine.{First, After, Insert, Delete, Replace, Note, Remove}
use Rattle.syned_run.specs.inner.SynedAnswer.{IsAnswer}
use Rattle.syned_run.proofs.ScriptTrees.{R, X, from_arguments, on_arguments, text_X, tree_X}
use Rattle.syned_run.proofs.ScriptAnswers.{edited}

the_first_of_two : IsAnswer (on_arguments (codes "remove R/1 COMMA\nfinish\n")) 0 (codes "text \"(2)\"\nchanged\n")
unfolding fields words digits
the_first_of_two = edited _ _ (from_arguments (Remove (R (1 ∷ [])) COMMA ∷ [])) refl refl refl refl refl

the_last_of_two : IsAnswer (on_arguments (codes "remove R/4 COMMA\nfinish\n")) 0 (codes "text \"(1)\"\nchanged\n")
unfolding fields words digits
the_last_of_two = edited _ _ (from_arguments (Remove (R (4 ∷ [])) COMMA ∷ [])) refl refl refl refl refl

no_separator_of_this_kind : IsAnswer (on_arguments (codes "remove R/1 SEMICOLON\nfinish\n")) 0 (codes "text \"(, 2)\"\nchanged\n")
unfolding fields words digits
no_separator_of_this_kind = edited _ _ (from_arguments (Remove (R (1 ∷ [])) SEMICOLON ∷ [])) refl refl refl refl refl

the_separator_itself : IsAnswer (on_arguments (codes "remove R/2 COMMA\nfinish\n")) 0 (codes "text \"(1 2)\"\nchanged\n")
unfolding fields words digits
the_separator_itself = edited _ _ (from_arguments (Remove (R (2 ∷ [])) COMMA ∷ [])) refl refl refl refl refl

whitespace_as_separator : IsAnswer (on_arguments (codes "remove R/2 WHITESPACE\nfinish\n")) 0 (codes "text \"(1 2)\"\nchanged\n")
unfolding fields words digits
whitespace_as_separator = edited _ _ (from_arguments (Remove (R (2 ∷ [])) WHITESPACE ∷ [])) refl refl refl refl refl

what_is_put_after_the_whitespace_that_goes_is_dropped : IsAnswer (on_arguments (text_X ++ codes "remove R/1 COMMA\ninsert after R/3 X/0\ninsert after R/0 X/0\nfinish\n")) 0 (codes "text \"(x2)\"\nchanged 1\n")
unfolding fields words digits
what_is_put_after_the_whitespace_that_goes_is_dropped = edited _ _ (from_arguments (tree_X ∷ Remove (R (1 ∷ [])) COMMA ∷ Insert (After (R (3 ∷ []))) (X (0 ∷ []) ∷ []) ∷ Insert (After (R (0 ∷ []))) (X (0 ∷ []) ∷ []) ∷ [])) refl refl refl refl refl

a_note_of_what_goes_and_of_what_stays : IsAnswer (on_arguments (codes "note w R/1\nnote v R/4\nremove R/1 COMMA\nfinish\n")) 0 (codes "text \"(2)\"\nchanged\nnote w\nnote v 1\n")
unfolding fields words digits
a_note_of_what_goes_and_of_what_stays = edited _ _ (from_arguments (Note (codes "w") (R (1 ∷ [])) ∷ Note (codes "v") (R (4 ∷ [])) ∷ Remove (R (1 ∷ [])) COMMA ∷ [])) refl refl refl refl refl

notes_of_elements_that_stay_in_the_order_of_the_notes : IsAnswer (on_arguments (codes "note w R/4\nnote w R/1\nfinish\n")) 0 (codes "text \"(1, 2)\"\nchanged\nnote w 4 1\n")
unfolding fields words digits
notes_of_elements_that_stay_in_the_order_of_the_notes = edited _ _ (from_arguments (Note (codes "w") (R (4 ∷ [])) ∷ Note (codes "w") (R (1 ∷ [])) ∷ [])) refl refl refl refl refl

a_note_of_a_deleted_element : IsAnswer (on_arguments (codes "note u R/1\ndelete R/1\nfinish\n")) 0 (codes "text \"(, 2)\"\nchanged\nnote u\n")
unfolding fields words digits
a_note_of_a_deleted_element = edited _ _ (from_arguments (Note (codes "u") (R (1 ∷ [])) ∷ Delete (R (1 ∷ [])) ∷ [])) refl refl refl refl refl

a_note_of_an_element_that_stays_and_is_inserted_again : IsAnswer (on_arguments (codes "note w R/1\ninsert after R/4 R/1\nfinish\n")) 0 (codes "text \"(1, 21)\"\nchanged 5\nnote w 1 5\n")
unfolding fields words digits
a_note_of_an_element_that_stays_and_is_inserted_again = edited _ _ (from_arguments (Note (codes "w") (R (1 ∷ [])) ∷ Insert (After (R (4 ∷ []))) (R (1 ∷ []) ∷ []) ∷ [])) refl refl refl refl refl

a_note_of_an_element_that_another_one_takes_the_place_of : IsAnswer (on_arguments (codes "note w R/1\nreplace R/1 R/4\nreplace R/4 R/1\nfinish\n")) 0 (codes "text \"(2, 1)\"\nchanged 1 4\nnote w 4\n")
unfolding fields words digits
a_note_of_an_element_that_another_one_takes_the_place_of = edited _ _ (from_arguments (Note (codes "w") (R (1 ∷ [])) ∷ Replace (R (1 ∷ [])) (R (4 ∷ []) ∷ []) ∷ Replace (R (4 ∷ [])) (R (1 ∷ []) ∷ []) ∷ [])) refl refl refl refl refl

a_note_of_an_element_that_replaces_another_one_and_is_replaced : IsAnswer (on_arguments (text_X ++ codes "note w R/4\nreplace R/1 R/4\nreplace R/4 X/0\nfinish\n")) 0 (codes "text \"(2, x)\"\nchanged 1 4\nnote w 1\n")
unfolding fields words digits
a_note_of_an_element_that_replaces_another_one_and_is_replaced = edited _ _ (from_arguments (tree_X ∷ Note (codes "w") (R (4 ∷ [])) ∷ Replace (R (1 ∷ [])) (R (4 ∷ []) ∷ []) ∷ Replace (R (4 ∷ [])) (X (0 ∷ []) ∷ []) ∷ [])) refl refl refl refl refl

two_words_by_their_first_use : IsAnswer (on_arguments (codes "note b R/1\nnote a R/4\nnote b R/4\nfinish\n")) 0 (codes "text \"(1, 2)\"\nchanged\nnote b 1 4\nnote a 4\n")
unfolding fields words digits
two_words_by_their_first_use = edited _ _ (from_arguments (Note (codes "b") (R (1 ∷ [])) ∷ Note (codes "a") (R (4 ∷ [])) ∷ Note (codes "b") (R (4 ∷ [])) ∷ [])) refl refl refl refl refl

a_note_of_the_root : IsAnswer (on_arguments (codes "note w R\nfinish\n")) 0 (codes "text \"(1, 2)\"\nchanged\nnote w .\n")
unfolding fields words digits
a_note_of_the_root = edited _ _ (from_arguments (Note (codes "w") (R []) ∷ [])) refl refl refl refl refl

a_note_of_a_token : IsAnswer (on_arguments (codes "note w R/1/0\ninsert first R/1 R/2\nfinish\n")) 0 (codes "text \"(,1, 2)\"\nchanged 1/0\nnote w 1/1\n")
unfolding fields words digits
a_note_of_a_token = edited _ _ (from_arguments (Note (codes "w") (R (1 ∷ 0 ∷ [])) ∷ Insert (First (R (1 ∷ []))) (R (2 ∷ []) ∷ []) ∷ [])) refl refl refl refl refl

a_note_of_an_element_of_another_tree : IsAnswer (on_arguments (text_X ++ codes "note w X/0\nfinish\n")) 0 (codes "text \"(1, 2)\"\nchanged\nnote w\n")
unfolding fields words digits
a_note_of_an_element_of_another_tree = edited _ _ (from_arguments (tree_X ∷ Note (codes "w") (X (0 ∷ [])) ∷ [])) refl refl refl refl refl

a_word_that_is_the_name_of_a_tree_and_one_that_is_the_editors : IsAnswer (on_arguments (codes "note A R/1\nnote R R/4\nnote A R/4\nfinish\n")) 0 (codes "text \"(1, 2)\"\nchanged\nnote A 1 4\nnote R 4\n")
unfolding fields words digits
a_word_that_is_the_name_of_a_tree_and_one_that_is_the_editors = edited _ _ (from_arguments (Note (codes "A") (R (1 ∷ [])) ∷ Note (codes "R") (R (4 ∷ [])) ∷ Note (codes "A") (R (4 ∷ [])) ∷ [])) refl refl refl refl refl
