-- Worked examples of rewriting: the new text, the changed paths, the owners and the effort.
use Rattle.std.specs.Prelude.{◌≡◌, ℕ, List, [], ◌∷◌, codes, flat_map, map, Option, Some, None, refl, Bool, true, false}
use Rattle.cst_core.specs.Path.{Path}
use Rattle.edit_map.proofs.RowTrees.{tree_L, tree_B, tree_BB, tree_M, tree_E, tree_F, tree_Z}
use Rattle.edit_map.proofs.Rows.{R, B, BB, N, O, M, NM, NR, W, N7, A3, mapping_of_extracting}
use Rattle.edit_change.specs.Nesting.{first_clash, is_dropped}
use Rattle.edit_change.specs.NewTree.{new_tree}
use Rattle.edit_change.specs.Results.{annotated, paths_with}
use Rattle.edit_change.specs.TouchedNodes.{touched_by}
use Rattle.edit_change.specs.declared.change.Change.{Change}
use Rattle.edit_plan.proofs.RowChanges.{outcome, owners, placed, no_places, after, before, first_in, last_in, insert, insert_all, delete, replace, replace_with_many, replace_all, E, F, Z, X, Y, U, V, S1, S3}

no_change : outcome [] no_places tree_L ≡ (codes "(1, 2)", [])
no_change = refl

no_change_effort : touched_by [] no_places (R []) ≡ 0
no_change_effort = refl

abbrev changes_of_one_literal : List Change
changes_of_one_literal = replace (R (1 ∷ [])) U ∷ []

one_literal_replaced : outcome changes_of_one_literal no_places tree_L ≡ (codes "(_, 2)", (1 ∷ []) ∷ [])
one_literal_replaced = refl

one_literal_replaced_effort : touched_by changes_of_one_literal no_places (R []) ≡ 1
one_literal_replaced_effort = refl

both_literals_replaced : outcome (replace (R (1 ∷ [])) U ∷ replace (R (4 ∷ [])) U ∷ []) no_places tree_L ≡ (codes "(_, _)", (1 ∷ []) ∷ (4 ∷ []) ∷ [])
both_literals_replaced = refl

both_literals_by_one_payload : outcome (replace (R (1 ∷ [])) A3 ∷ replace (R (4 ∷ [])) A3 ∷ []) no_places tree_L ≡ (codes "(3, 3)", (1 ∷ []) ∷ (4 ∷ []) ∷ [])
both_literals_by_one_payload = refl

abbrev pub changes_before_both_literals : List Change
changes_before_both_literals = insert (before (R (1 ∷ []))) V ∷ insert (before (R (4 ∷ []))) V ∷ []

inserts_before_both_literals : outcome changes_before_both_literals no_places tree_L ≡ (codes "(()1, ()2)", (1 ∷ []) ∷ (5 ∷ []) ∷ [])
inserts_before_both_literals = refl

inserts_before_both_literals_effort : touched_by changes_before_both_literals no_places (R []) ≡ 1
inserts_before_both_literals_effort = refl

-- ---- nested changes
abbrev pub changes_in_a_block : List Change
changes_in_a_block = insert (first_in (B (0 ∷ []))) S1 ∷ insert (after (B (0 ∷ 2 ∷ []))) S3 ∷ []

inserts_in_a_block : outcome changes_in_a_block no_places tree_B ≡ (codes "let first = 1;{\n    let second = 2;let third = 3;\n}", (0 ∷ 0 ∷ []) ∷ (0 ∷ 4 ∷ []) ∷ [])
inserts_in_a_block = refl

inserts_in_a_block_effort : touched_by changes_in_a_block no_places (B []) ≡ 2
inserts_in_a_block_effort = refl

abbrev pub changes_in_a_wrapped_block : List Change
changes_in_a_wrapped_block = insert (first_in (BB (0 ∷ 2 ∷ 0 ∷ []))) S1 ∷ insert (after (BB (0 ∷ 2 ∷ 0 ∷ 2 ∷ []))) S3 ∷ replace (BB (0 ∷ 2 ∷ [])) (N []) ∷ []

abbrev pub places_in_a_wrapped_block : ℕ → Path
places_in_a_wrapped_block = placed 2 (0 ∷ 2 ∷ []) no_places

inserts_move_into_a_wrapped_block : outcome changes_in_a_wrapped_block places_in_a_wrapped_block tree_BB ≡ (codes "{\n    {\n    let first = 1;{\n    let second = 2;let third = 3;\n}\n}\n}", (0 ∷ 2 ∷ []) ∷ [])
inserts_move_into_a_wrapped_block = refl

inserts_move_into_a_wrapped_block_effort : touched_by changes_in_a_wrapped_block places_in_a_wrapped_block (BB []) ≡ 6
inserts_move_into_a_wrapped_block_effort = refl

abbrev pub changes_wrapping_twice : List Change
changes_wrapping_twice = insert (first_in (BB (0 ∷ 2 ∷ 0 ∷ []))) S1 ∷ replace (BB (0 ∷ 2 ∷ [])) (N []) ∷ replace (BB []) (O []) ∷ []

abbrev places_wrapping_twice : ℕ → Path
places_wrapping_twice = placed 1 (0 ∷ 2 ∷ []) (placed 2 (0 ∷ 2 ∷ []) no_places)

-- the replacement of R/0/2 owns the insert, and the replacement of R owns that replacement
owners_in_a_block_wrapped_twice : owners changes_wrapping_twice ≡ Some 1 ∷ Some 2 ∷ None ∷ []
owners_in_a_block_wrapped_twice = refl

insert_moves_into_a_block_wrapped_twice : outcome changes_wrapping_twice places_wrapping_twice tree_BB ≡ (codes "{\n    {\n    {\n    let first = 1;{\n    let second = 2;\n}\n}\n}\n}", [] ∷ [])
insert_moves_into_a_block_wrapped_twice = refl

insert_moves_into_a_block_wrapped_twice_effort : touched_by changes_wrapping_twice places_wrapping_twice (BB []) ≡ 8
insert_moves_into_a_block_wrapped_twice_effort = refl

abbrev changes_wrapping_the_root : List Change
changes_wrapping_the_root = insert (first_in (B (0 ∷ []))) S1 ∷ replace (B []) (N []) ∷ []

abbrev places_wrapping_the_root : ℕ → Path
places_wrapping_the_root = placed 1 (0 ∷ 2 ∷ []) no_places

insert_moves_into_a_wrapped_root : outcome changes_wrapping_the_root places_wrapping_the_root tree_B ≡ (codes "{\n    let first = 1;{\n    let second = 2;\n}\n}", [] ∷ [])
insert_moves_into_a_wrapped_root = refl

insert_moves_into_a_wrapped_root_effort : touched_by changes_wrapping_the_root places_wrapping_the_root (B []) ≡ 4
insert_moves_into_a_wrapped_root_effort = refl

abbrev pub changes_extracting : List Change
changes_extracting = replace (M (4 ∷ 1 ∷ [])) NR ∷ replace (M (4 ∷ [])) (W []) ∷ []

abbrev pub places_extracting : ℕ → Path
places_extracting = placed 1 (0 ∷ 4 ∷ []) no_places

variable_extracted : outcome changes_extracting places_extracting tree_M ≡ (codes "_ => {\n    let var_name = 2 + 2;\n    (var_name, true)\n},", (4 ∷ []) ∷ [])
variable_extracted = refl

variable_extracted_notes : flat_map (λ t. paths_with 1 (annotated mapping_of_extracting ((NM, 1) ∷ (NR, 1) ∷ []) t)) (new_tree changes_extracting places_extracting (M [])) ≡ (4 ∷ 0 ∷ 2 ∷ 2 ∷ 0 ∷ []) ∷ (4 ∷ 0 ∷ 4 ∷ 1 ∷ []) ∷ []
variable_extracted_notes = refl

variable_extracted_effort : touched_by changes_extracting places_extracting (M []) ≡ 4
variable_extracted_effort = refl

-- ---- regions, drops and gaps
abbrev pub changes_after_a_deleted_node : List Change
changes_after_a_deleted_node = delete (R (1 ∷ [])) ∷ insert (after (R (1 ∷ []))) X ∷ []

insert_after_a_deleted_node : outcome changes_after_a_deleted_node no_places tree_L ≡ (codes "(, 2)", [])
insert_after_a_deleted_node = refl

insert_after_a_deleted_node_dropped : map (is_dropped changes_after_a_deleted_node) changes_after_a_deleted_node ≡ false ∷ true ∷ []
insert_after_a_deleted_node_dropped = refl

insert_after_a_deleted_node_effort : touched_by changes_after_a_deleted_node no_places (R []) ≡ 1
insert_after_a_deleted_node_effort = refl

abbrev pub changes_after_a_deleted_token : List Change
changes_after_a_deleted_token = delete (R (2 ∷ [])) ∷ insert (after (R (2 ∷ []))) X ∷ []

insert_after_a_deleted_token : outcome changes_after_a_deleted_token no_places tree_L ≡ (codes "(1x 2)", (2 ∷ []) ∷ [])
insert_after_a_deleted_token = refl

literals_exchanged : outcome (replace (R (1 ∷ [])) (R (4 ∷ [])) ∷ replace (R (4 ∷ [])) (R (1 ∷ [])) ∷ []) no_places tree_L ≡ (codes "(2, 1)", (1 ∷ []) ∷ (4 ∷ []) ∷ [])
literals_exchanged = refl

abbrev changes_by_the_whole_tree : List Change
changes_by_the_whole_tree = insert (first_in (R (1 ∷ []))) X ∷ replace (R (1 ∷ [])) (R []) ∷ []

abbrev places_by_the_whole_tree : ℕ → Path
places_by_the_whole_tree = placed 1 (1 ∷ []) no_places

literal_by_the_whole_tree : outcome changes_by_the_whole_tree places_by_the_whole_tree tree_L ≡ (codes "((x1, 2), 2)", (1 ∷ []) ∷ [])
literal_by_the_whole_tree = refl

literal_by_the_whole_tree_effort : touched_by changes_by_the_whole_tree places_by_the_whole_tree (R []) ≡ 3
literal_by_the_whole_tree_effort = refl

deleted_twice_clashes : first_clash (delete (E (1 ∷ [])) ∷ delete (E (1 ∷ [])) ∷ []) ≡ Some (0, 1)
deleted_twice_clashes = refl

abbrev changes_by_itself : List Change
changes_by_itself = replace (R (1 ∷ [])) (R (1 ∷ [])) ∷ insert (first_in (R (1 ∷ []))) X ∷ []

literal_by_itself : outcome changes_by_itself no_places tree_L ≡ (codes "(x1, 2)", (1 ∷ []) ∷ [])
literal_by_itself = refl

literal_by_itself_effort : touched_by changes_by_itself no_places (R []) ≡ 2
literal_by_itself_effort = refl

literal_deleted : outcome (delete (R (1 ∷ [])) ∷ []) no_places tree_L ≡ (codes "(, 2)", [])
literal_deleted = refl

abbrev pub changes_in_one_gap : List Change
changes_in_one_gap = insert (after (R (0 ∷ []))) X ∷ insert (after (R (0 ∷ []))) Y ∷ []

two_inserts_in_one_gap : outcome changes_in_one_gap no_places tree_L ≡ (codes "(xy1, 2)", (1 ∷ []) ∷ (2 ∷ []) ∷ [])
two_inserts_in_one_gap = refl

abbrev changes_deleting_three : List Change
changes_deleting_three = delete (F (5 ∷ [])) ∷ delete (F (6 ∷ [])) ∷ delete (F (7 ∷ 0 ∷ 2 ∷ [])) ∷ []

three_deleted : outcome changes_deleting_three no_places tree_F ≡ (codes "fn it() {\n    \n}", [])
three_deleted = refl

three_deleted_effort : touched_by changes_deleting_three no_places (F []) ≡ 3
three_deleted_effort = refl

replacement_below_one_by_a_token : outcome (replace (R (1 ∷ 0 ∷ [])) X ∷ replace (R (1 ∷ [])) U ∷ []) no_places tree_L ≡ (codes "(_, 2)", (1 ∷ []) ∷ [])
replacement_below_one_by_a_token = refl

-- ---- the ends of a node
insert_after_the_last_child : outcome (insert (last_in (R [])) X ∷ []) no_places tree_L ≡ (codes "(1, 2)x", (6 ∷ []) ∷ [])
insert_after_the_last_child = refl

two_inserted_as_one : outcome (insert_all (after (R (0 ∷ []))) (X ∷ Y ∷ []) ∷ []) no_places tree_L ≡ (codes "(xy1, 2)", (1 ∷ []) ∷ (2 ∷ []) ∷ [])
two_inserted_as_one = refl

first_in_empty : outcome (insert (first_in (E (1 ∷ []))) X ∷ []) no_places tree_E ≡ (codes "(x)", (1 ∷ 0 ∷ []) ∷ [])
first_in_empty = refl

last_in_empty : outcome (insert (last_in (E (1 ∷ []))) X ∷ []) no_places tree_E ≡ (codes "(x)", (1 ∷ 0 ∷ []) ∷ [])
last_in_empty = refl

after_deleted_empty : outcome (delete (E (1 ∷ [])) ∷ insert (before (E (2 ∷ []))) X ∷ []) no_places tree_E ≡ (codes "()", [])
after_deleted_empty = refl

before_deleted_empty : outcome (delete (E (1 ∷ [])) ∷ insert (before (E (1 ∷ []))) X ∷ []) no_places tree_E ≡ (codes "(x)", (1 ∷ []) ∷ [])
before_deleted_empty = refl

beside_deleted_token : outcome (insert (after (E (0 ∷ []))) X ∷ delete (E (2 ∷ [])) ∷ []) no_places tree_E ≡ (codes "(x", (1 ∷ []) ∷ [])
beside_deleted_token = refl

-- ---- ranges and tokens
insert_after_a_range : outcome (replace_all (R (2 ∷ [])) (R (3 ∷ [])) (X ∷ []) ∷ insert (after (R (3 ∷ []))) Y ∷ []) no_places tree_L ≡ (codes "(1x2)", (2 ∷ []) ∷ [])
insert_after_a_range = refl

insert_before_a_range : outcome (replace_all (R (2 ∷ [])) (R (3 ∷ [])) (X ∷ []) ∷ insert (after (R (1 ∷ []))) Y ∷ []) no_places tree_L ≡ (codes "(1yx2)", (2 ∷ []) ∷ (3 ∷ []) ∷ [])
insert_before_a_range = refl

insert_after_a_replaced_token : outcome (replace (R (2 ∷ [])) X ∷ insert (after (R (2 ∷ []))) Y ∷ []) no_places tree_L ≡ (codes "(1xy 2)", (2 ∷ []) ∷ (3 ∷ []) ∷ [])
insert_after_a_replaced_token = refl

insert_after_a_token_replaced_by_two : outcome (replace_with_many (R (2 ∷ [])) (X ∷ Y ∷ []) ∷ insert (after (R (2 ∷ []))) V ∷ []) no_places tree_L ≡ (codes "(1xy() 2)", (2 ∷ []) ∷ (3 ∷ []) ∷ (4 ∷ []) ∷ [])
insert_after_a_token_replaced_by_two = refl

abbrev pub changes_of_a_comma : List Change
changes_of_a_comma = replace (Z (1 ∷ [])) X ∷ insert (after (Z (1 ∷ []))) Y ∷ []

insert_after_a_replaced_comma : outcome changes_of_a_comma no_places tree_Z ≡ (codes "(xy)", (1 ∷ []) ∷ (2 ∷ []) ∷ [])
insert_after_a_replaced_comma = refl

-- ---- clashes
deletion_and_replacement_clash : first_clash (delete (R (1 ∷ [])) ∷ replace_with_many (R (1 ∷ [])) (X ∷ Y ∷ []) ∷ []) ≡ Some (0, 1)
deletion_and_replacement_clash = refl

ranges_clash : first_clash (replace_all (R (1 ∷ [])) (R (3 ∷ [])) [] ∷ replace_all (R (3 ∷ [])) (R (4 ∷ [])) [] ∷ []) ≡ Some (0, 1)
ranges_clash = refl

-- of two clashes the one with the least second change counts, not the one with the least first
least_second_change_counts : first_clash (delete (R (1 ∷ [])) ∷ delete (R (4 ∷ [])) ∷ delete (R (4 ∷ [])) ∷ delete (R (1 ∷ [])) ∷ []) ≡ Some (1, 2)
least_second_change_counts = refl

-- one replacement around another is no clash
replacement_around_another_is_no_clash : first_clash (replace (R (1 ∷ 0 ∷ [])) X ∷ replace (R (1 ∷ [])) U ∷ []) ≡ None
replacement_around_another_is_no_clash = refl

-- ---- roots
root_replaced : outcome (replace (R []) V ∷ []) no_places tree_L ≡ (codes "()", [] ∷ [])
root_replaced = refl

root_by_itself : outcome (replace (R []) (R []) ∷ insert (first_in (R [])) X ∷ []) no_places tree_L ≡ (codes "x(1, 2)", [] ∷ [])
root_by_itself = refl

below_root_by_itself : outcome (replace (R []) (R []) ∷ replace (R (1 ∷ [])) X ∷ []) no_places tree_L ≡ (codes "(x, 2)", [] ∷ [])
below_root_by_itself = refl

abbrev changes_root_drops : List Change
changes_root_drops = replace_with_many (R []) (V ∷ []) ∷ delete (R (1 ∷ [])) ∷ []

replaced_root : outcome changes_root_drops no_places tree_L ≡ (codes "()", [] ∷ [])
replaced_root = refl

replaced_root_drops_the_rest : map (is_dropped changes_root_drops) changes_root_drops ≡ false ∷ true ∷ []
replaced_root_drops_the_rest = refl

-- ---- payloads
insert_moves_to_the_copy : outcome (insert (first_in (R (1 ∷ []))) X ∷ replace (R (1 ∷ [])) (N7 []) ∷ []) (placed 1 (1 ∷ []) no_places) tree_L ≡ (codes "((x7), 2)", (1 ∷ []) ∷ [])
insert_moves_to_the_copy = refl

-- one payload under two owners: each copy has the changes of its own owner
abbrev changes_shared : List Change
changes_shared = insert (first_in (R (1 ∷ []))) X ∷ insert (first_in (R (4 ∷ []))) Y ∷ replace (R (1 ∷ [])) (N7 []) ∷ replace (R (4 ∷ [])) (N7 []) ∷ []

abbrev places_shared : ℕ → Path
places_shared = placed 2 (1 ∷ []) (placed 3 (1 ∷ []) no_places)

one_payload_of_two_owners : outcome changes_shared places_shared tree_L ≡ (codes "((x7), (y7))", (1 ∷ []) ∷ (4 ∷ []) ∷ [])
one_payload_of_two_owners = refl

one_payload_of_two_owners_effort : touched_by changes_shared places_shared (R []) ≡ 5
one_payload_of_two_owners_effort = refl

-- a payload of the edited tree is taken as it was
payload_as_it_was : outcome (replace (R (1 ∷ [])) (R (4 ∷ [])) ∷ insert (first_in (R (4 ∷ []))) X ∷ []) no_places tree_L ≡ (codes "(2, x2)", (1 ∷ []) ∷ (4 ∷ 0 ∷ []) ∷ [])
payload_as_it_was = refl

-- a keeping replacement in a deleted node is dropped, and so is what lies in it
abbrev changes_below_deleted : List Change
changes_below_deleted = delete (F (7 ∷ [])) ∷ replace (F (7 ∷ 0 ∷ [])) (F (7 ∷ 0 ∷ [])) ∷ insert (first_in (F (7 ∷ 0 ∷ []))) X ∷ []

dropped_below_deleted : ◌≡◌ {A = List Bool × List (Option ℕ)} (map (is_dropped changes_below_deleted) changes_below_deleted, owners changes_below_deleted) (false ∷ true ∷ true ∷ [], None ∷ None ∷ None ∷ [])
dropped_below_deleted = refl
