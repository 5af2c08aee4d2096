-- Worked scripts with a bad line: each has three good ones before it.
use Rattle.std.specs.Prelude.{[], ◌∷◌, ◌++◌, codes, refl}
use Rattle.std.specs.Fmt.{digits}
use Rattle.cst_core.specs.Kinds.{ARG_LIST, COMMA}
use Rattle.script_lines.specs.Line.{fields, words}
use Rattle.script_lines.specs.ScriptLine.{Tree, Edit, Map, First, Before, After, Insert, Delete, Replace, Range, Note, Remove}
use Rattle.syned_run.specs.inner.SynedAnswer.{IsAnswer}
use Rattle.syned_run.proofs.ScriptTrees.{ref, node, A, R, U, from_arguments, on_arguments, text_U, tree_U}
use Rattle.syned_run.proofs.ScriptAnswers.{bad, unread}

second_edit : IsAnswer (on_arguments (text_U ++ codes "edit S A\nfinish\n")) 2 (codes "bad script line 4\n")
unfolding fields words digits
second_edit = bad _ _ (from_arguments (tree_U ∷ [])) (Edit (codes "S") (A [])) refl refl refl refl

edit_with_one_field : IsAnswer (on_arguments (text_U ++ codes "edit S\nfinish\n")) 2 (codes "bad script line 4\n")
unfolding fields words digits
edit_with_one_field = unread _ _ (from_arguments (tree_U ∷ [])) refl refl refl

edit_with_a_field_too_many : IsAnswer (on_arguments (text_U ++ codes "edit S A A\nfinish\n")) 2 (codes "bad script line 4\n")
unfolding fields words digits
edit_with_a_field_too_many = unread _ _ (from_arguments (tree_U ∷ [])) refl refl refl

edit_without_a_field : IsAnswer (on_arguments (text_U ++ codes "edit\nfinish\n")) 2 (codes "bad script line 4\n")
unfolding fields words digits
edit_without_a_field = unread _ _ (from_arguments (tree_U ∷ [])) refl refl refl

unknown_word : IsAnswer (on_arguments (text_U ++ codes "no\nfinish\n")) 2 (codes "bad script line 4\n")
unfolding fields words digits
unknown_word = unread _ _ (from_arguments (tree_U ∷ [])) refl refl refl

word_of_another_case : IsAnswer (on_arguments (text_U ++ codes "Tree B (ARG_LIST)\nfinish\n")) 2 (codes "bad script line 4\n")
unfolding fields words digits
word_of_another_case = unread _ _ (from_arguments (tree_U ∷ [])) refl refl refl

longer_word : IsAnswer (on_arguments (text_U ++ codes "finished\nfinish\n")) 2 (codes "bad script line 4\n")
unfolding fields words digits
longer_word = unread _ _ (from_arguments (tree_U ∷ [])) refl refl refl

tree_without_an_expression : IsAnswer (on_arguments (text_U ++ codes "tree B\nfinish\n")) 2 (codes "bad script line 4\n")
unfolding fields words digits
tree_without_an_expression = unread _ _ (from_arguments (tree_U ∷ [])) refl refl refl

tree_with_a_name_that_is_taken : IsAnswer (on_arguments (text_U ++ codes "tree A (ARG_LIST)\nfinish\n")) 2 (codes "bad script line 4\n")
unfolding fields words digits
tree_with_a_name_that_is_taken = bad _ _ (from_arguments (tree_U ∷ [])) (Tree (codes "A") (node ARG_LIST [])) refl refl refl refl

unknown_kind_of_a_node : IsAnswer (on_arguments (text_U ++ codes "tree B (ARGLIST)\nfinish\n")) 2 (codes "bad script line 4\n")
unfolding fields words digits
unknown_kind_of_a_node = unread _ _ (from_arguments (tree_U ∷ [])) refl refl refl

kind_in_small_letters : IsAnswer (on_arguments (text_U ++ codes "tree B (arg_list)\nfinish\n")) 2 (codes "bad script line 4\n")
unfolding fields words digits
kind_in_small_letters = unread _ _ (from_arguments (tree_U ∷ [])) refl refl refl

space_before_a_kind : IsAnswer (on_arguments (text_U ++ codes "tree B ( ARG_LIST)\nfinish\n")) 2 (codes "bad script line 4\n")
unfolding fields words digits
space_before_a_kind = unread _ _ (from_arguments (tree_U ∷ [])) refl refl refl

number_for_a_kind : IsAnswer (on_arguments (text_U ++ codes "tree B (18)\nfinish\n")) 2 (codes "bad script line 4\n")
unfolding fields words digits
number_for_a_kind = unread _ _ (from_arguments (tree_U ∷ [])) refl refl refl

node_without_a_kind : IsAnswer (on_arguments (text_U ++ codes "tree B ()\nfinish\n")) 2 (codes "bad script line 4\n")
unfolding fields words digits
node_without_a_kind = unread _ _ (from_arguments (tree_U ∷ [])) refl refl refl

node_that_is_not_closed : IsAnswer (on_arguments (text_U ++ codes "tree B (ARG_LIST\nfinish\n")) 2 (codes "bad script line 4\n")
unfolding fields words digits
node_that_is_not_closed = unread _ _ (from_arguments (tree_U ∷ [])) refl refl refl

no_parentheses : IsAnswer (on_arguments (text_U ++ codes "tree B ARG_LIST\nfinish\n")) 2 (codes "bad script line 4\n")
unfolding fields words digits
no_parentheses = unread _ _ (from_arguments (tree_U ∷ [])) refl refl refl

kind_and_a_token_without_a_space : IsAnswer (on_arguments (text_U ++ codes "tree B (ARG_LISTIDENT\"a\")\nfinish\n")) 2 (codes "bad script line 4\n")
unfolding fields words digits
kind_and_a_token_without_a_space = unread _ _ (from_arguments (tree_U ∷ [])) refl refl refl

slot_past_the_end : IsAnswer (on_arguments (text_U ++ codes "replace R/6 U/0\nfinish\n")) 2 (codes "bad script line 4\n")
unfolding fields words digits
slot_past_the_end = bad _ _ (from_arguments (tree_U ∷ [])) (Replace (R (6 ∷ [])) (U (0 ∷ []) ∷ [])) refl refl refl refl

slot_of_a_token : IsAnswer (on_arguments (text_U ++ codes "replace R/0/0 U/0\nfinish\n")) 2 (codes "bad script line 4\n")
unfolding fields words digits
slot_of_a_token = bad _ _ (from_arguments (tree_U ∷ [])) (Replace (R (0 ∷ 0 ∷ [])) (U (0 ∷ []) ∷ [])) refl refl refl refl

greatest_slot : IsAnswer (on_arguments (text_U ++ codes "replace R/18446744073709551615 U/0\nfinish\n")) 2 (codes "bad script line 4\n")
unfolding fields words digits
greatest_slot = bad _ _ (from_arguments (tree_U ∷ [])) (Replace (R (18446744073709551615 ∷ [])) (U (0 ∷ []) ∷ [])) refl refl refl refl

slot_too_large : IsAnswer (on_arguments (text_U ++ codes "replace R/18446744073709551616 U/0\nfinish\n")) 2 (codes "bad script line 4\n")
unfolding fields words digits
slot_too_large = unread _ _ (from_arguments (tree_U ∷ [])) refl refl refl

unknown_tree : IsAnswer (on_arguments (text_U ++ codes "replace B U/0\nfinish\n")) 2 (codes "bad script line 4\n")
unfolding fields words digits
unknown_tree = bad _ _ (from_arguments (tree_U ∷ [])) (Replace (ref (codes "B") []) (U (0 ∷ []) ∷ [])) refl refl refl refl

name_of_another_case : IsAnswer (on_arguments (text_U ++ codes "replace r U/0\nfinish\n")) 2 (codes "bad script line 4\n")
unfolding fields words digits
name_of_another_case = bad _ _ (from_arguments (tree_U ∷ [])) (Replace (ref (codes "r") []) (U (0 ∷ []) ∷ [])) refl refl refl refl

payload_past_the_end : IsAnswer (on_arguments (text_U ++ codes "replace R/1 U/1\nfinish\n")) 2 (codes "bad script line 4\n")
unfolding fields words digits
payload_past_the_end = bad _ _ (from_arguments (tree_U ∷ [])) (Replace (R (1 ∷ [])) (U (1 ∷ []) ∷ [])) refl refl refl refl

unknown_payload : IsAnswer (on_arguments (text_U ++ codes "replace R/1 B\nfinish\n")) 2 (codes "bad script line 4\n")
unfolding fields words digits
unknown_payload = bad _ _ (from_arguments (tree_U ∷ [])) (Replace (R (1 ∷ [])) (ref (codes "B") [] ∷ [])) refl refl refl refl

reference_without_a_name : IsAnswer (on_arguments (text_U ++ codes "replace /1 U/0\nfinish\n")) 2 (codes "bad script line 4\n")
unfolding fields words digits
reference_without_a_name = unread _ _ (from_arguments (tree_U ∷ [])) refl refl refl

slash_at_the_end : IsAnswer (on_arguments (text_U ++ codes "replace R/1/ U/0\nfinish\n")) 2 (codes "bad script line 4\n")
unfolding fields words digits
slash_at_the_end = unread _ _ (from_arguments (tree_U ∷ [])) refl refl refl

slot_with_a_sign : IsAnswer (on_arguments (text_U ++ codes "replace R/+1 U/0\nfinish\n")) 2 (codes "bad script line 4\n")
unfolding fields words digits
slot_with_a_sign = unread _ _ (from_arguments (tree_U ∷ [])) refl refl refl

slot_with_a_letter : IsAnswer (on_arguments (text_U ++ codes "replace R/0x1 U/0\nfinish\n")) 2 (codes "bad script line 4\n")
unfolding fields words digits
slot_with_a_letter = unread _ _ (from_arguments (tree_U ∷ [])) refl refl refl

comma_between_fields : IsAnswer (on_arguments (text_U ++ codes "replace R/1,U/0\nfinish\n")) 2 (codes "bad script line 4\n")
unfolding fields words digits
comma_between_fields = unread _ _ (from_arguments (tree_U ∷ [])) refl refl refl

tab_between_fields : IsAnswer (on_arguments (text_U ++ codes "replace R/1\tU/0\nfinish\n")) 2 (codes "bad script line 4\n")
unfolding fields words digits
tab_between_fields = unread _ _ (from_arguments (tree_U ∷ [])) refl refl refl

comment_behind_a_line : IsAnswer (on_arguments (text_U ++ codes "replace R/1 U/0 # no comment\nfinish\n")) 2 (codes "bad script line 4\n")
unfolding fields words digits
comment_behind_a_line = unread _ _ (from_arguments (tree_U ∷ [])) refl refl refl

replacement_of_nothing : IsAnswer (on_arguments (text_U ++ codes "replace\nfinish\n")) 2 (codes "bad script line 4\n")
unfolding fields words digits
replacement_of_nothing = unread _ _ (from_arguments (tree_U ∷ [])) refl refl refl

bad_reference_before_a_refusal : IsAnswer (on_arguments (text_U ++ codes "replace R U/9\nfinish\n")) 2 (codes "bad script line 4\n")
unfolding fields words digits
bad_reference_before_a_refusal = bad _ _ (from_arguments (tree_U ∷ [])) (Replace (R []) (U (9 ∷ []) ∷ [])) refl refl refl refl

insert_without_an_element : IsAnswer (on_arguments (text_U ++ codes "insert first\nfinish\n")) 2 (codes "bad script line 4\n")
unfolding fields words digits
insert_without_an_element = unread _ _ (from_arguments (tree_U ∷ [])) refl refl refl

insert_without_a_place : IsAnswer (on_arguments (text_U ++ codes "insert R U/0\nfinish\n")) 2 (codes "bad script line 4\n")
unfolding fields words digits
insert_without_a_place = unread _ _ (from_arguments (tree_U ∷ [])) refl refl refl

unknown_place : IsAnswer (on_arguments (text_U ++ codes "insert middle R U/0\nfinish\n")) 2 (codes "bad script line 4\n")
unfolding fields words digits
unknown_place = unread _ _ (from_arguments (tree_U ∷ [])) refl refl refl

first_in_a_token : IsAnswer (on_arguments (text_U ++ codes "insert first R/0 U/0\nfinish\n")) 2 (codes "bad script line 4\n")
unfolding fields words digits
first_in_a_token = bad _ _ (from_arguments (tree_U ∷ [])) (Insert (First (R (0 ∷ []))) (U (0 ∷ []) ∷ [])) refl refl refl refl

before_the_root : IsAnswer (on_arguments (text_U ++ codes "insert before R U/0\nfinish\n")) 2 (codes "bad script line 4\n")
unfolding fields words digits
before_the_root = bad _ _ (from_arguments (tree_U ∷ [])) (Insert (Before (R [])) (U (0 ∷ []) ∷ [])) refl refl refl refl

after_the_root : IsAnswer (on_arguments (text_U ++ codes "insert after R U/0\nfinish\n")) 2 (codes "bad script line 4\n")
unfolding fields words digits
after_the_root = bad _ _ (from_arguments (tree_U ∷ [])) (Insert (After (R [])) (U (0 ∷ []) ∷ [])) refl refl refl refl

after_another_root : IsAnswer (on_arguments (text_U ++ codes "insert after U U/0\nfinish\n")) 2 (codes "bad script line 4\n")
unfolding fields words digits
after_another_root = bad _ _ (from_arguments (tree_U ∷ [])) (Insert (After (U [])) (U (0 ∷ []) ∷ [])) refl refl refl refl

deletion_with_a_field_too_many : IsAnswer (on_arguments (text_U ++ codes "delete R/1 R/2\nfinish\n")) 2 (codes "bad script line 4\n")
unfolding fields words digits
deletion_with_a_field_too_many = unread _ _ (from_arguments (tree_U ∷ [])) refl refl refl

deletion_past_the_end : IsAnswer (on_arguments (text_U ++ codes "delete R/9\nfinish\n")) 2 (codes "bad script line 4\n")
unfolding fields words digits
deletion_past_the_end = bad _ _ (from_arguments (tree_U ∷ [])) (Delete (R (9 ∷ []))) refl refl refl refl

range_of_one_field : IsAnswer (on_arguments (text_U ++ codes "range R/1\nfinish\n")) 2 (codes "bad script line 4\n")
unfolding fields words digits
range_of_one_field = unread _ _ (from_arguments (tree_U ∷ [])) refl refl refl

range_past_the_end : IsAnswer (on_arguments (text_U ++ codes "range R/1 R/9\nfinish\n")) 2 (codes "bad script line 4\n")
unfolding fields words digits
range_past_the_end = bad _ _ (from_arguments (tree_U ∷ [])) (Range (R (1 ∷ [])) (R (9 ∷ [])) []) refl refl refl refl

finish_with_a_field : IsAnswer (on_arguments (text_U ++ codes "finish now\nfinish\n")) 2 (codes "bad script line 4\n")
unfolding fields words digits
finish_with_a_field = unread _ _ (from_arguments (tree_U ∷ [])) refl refl refl

map_with_a_field_too_many : IsAnswer (on_arguments (text_U ++ codes "map R R/1 R/4 R/1\nfinish\n")) 2 (codes "bad script line 4\n")
unfolding fields words digits
map_with_a_field_too_many = unread _ _ (from_arguments (tree_U ∷ [])) refl refl refl

map_to_a_token : IsAnswer (on_arguments (text_U ++ codes "map R R/1 R/0\nfinish\n")) 2 (codes "bad script line 4\n")
unfolding fields words digits
map_to_a_token = bad _ _ (from_arguments (tree_U ∷ [])) (Map (R []) (R (1 ∷ [])) (R (0 ∷ []))) refl refl refl refl

map_of_an_unknown_tree : IsAnswer (on_arguments (text_U ++ codes "map S R/1 R/4\nfinish\n")) 2 (codes "bad script line 4\n")
unfolding fields words digits
map_of_an_unknown_tree = bad _ _ (from_arguments (tree_U ∷ [])) (Map (ref (codes "S") []) (R (1 ∷ [])) (R (4 ∷ []))) refl refl refl refl

note_without_an_element : IsAnswer (on_arguments (text_U ++ codes "note w\nfinish\n")) 2 (codes "bad script line 4\n")
unfolding fields words digits
note_without_an_element = unread _ _ (from_arguments (tree_U ∷ [])) refl refl refl

note_of_a_bad_word : IsAnswer (on_arguments (text_U ++ codes "note 1w R/1\nfinish\n")) 2 (codes "bad script line 4\n")
unfolding fields words digits
note_of_a_bad_word = unread _ _ (from_arguments (tree_U ∷ [])) refl refl refl

note_past_the_end : IsAnswer (on_arguments (text_U ++ codes "note w R/9\nfinish\n")) 2 (codes "bad script line 4\n")
unfolding fields words digits
note_past_the_end = bad _ _ (from_arguments (tree_U ∷ [])) (Note (codes "w") (R (9 ∷ []))) refl refl refl refl

word_too_long : IsAnswer (on_arguments (text_U ++ codes "note abcdefghijklmnopqrstuvwxyzabcdefg R/1\nfinish\n")) 2 (codes "bad script line 4\n")
unfolding fields words digits
word_too_long = unread _ _ (from_arguments (tree_U ∷ [])) refl refl refl

order_of_no_number : IsAnswer (on_arguments (text_U ++ codes "order x\nfinish\n")) 2 (codes "bad script line 4\n")
unfolding fields words digits
order_of_no_number = unread _ _ (from_arguments (tree_U ∷ [])) refl refl refl

order_with_a_sign : IsAnswer (on_arguments (text_U ++ codes "order -1\nfinish\n")) 2 (codes "bad script line 4\n")
unfolding fields words digits
order_with_a_sign = unread _ _ (from_arguments (tree_U ∷ [])) refl refl refl

removal_of_an_unknown_kind : IsAnswer (on_arguments (text_U ++ codes "remove R/1 NO_KIND\nfinish\n")) 2 (codes "bad script line 4\n")
unfolding fields words digits
removal_of_an_unknown_kind = unread _ _ (from_arguments (tree_U ∷ [])) refl refl refl

removal_of_a_kind_in_small_letters : IsAnswer (on_arguments (text_U ++ codes "remove R/1 comma\nfinish\n")) 2 (codes "bad script line 4\n")
unfolding fields words digits
removal_of_a_kind_in_small_letters = unread _ _ (from_arguments (tree_U ∷ [])) refl refl refl

removal_past_the_end : IsAnswer (on_arguments (text_U ++ codes "remove R/9 COMMA\nfinish\n")) 2 (codes "bad script line 4\n")
unfolding fields words digits
removal_past_the_end = bad _ _ (from_arguments (tree_U ∷ [])) (Remove (R (9 ∷ [])) COMMA) refl refl refl refl
