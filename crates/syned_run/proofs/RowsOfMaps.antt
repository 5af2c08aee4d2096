-- Worked scripts in which changes move into what replaces a node around them, or find no place there.
use Rattle.std.specs.Prelude.{[], ◌∷◌, ◌++◌, codes, refl}
use Rattle.std.specs.Fmt.{digits}
use Rattle.cst_core.specs.Kinds.{ARG_LIST, ATTR, BLOCK_EXPR, COMMA, EQ, IDENT, IDENT_PAT, LET_KW, LET_STMT, L_CURLY, L_PAREN, NAME, R_CURLY, R_PAREN, SEMICOLON, STMT_LIST, TUPLE_EXPR, WHITESPACE}
use Rattle.script_lines.specs.Line.{fields, words}
use Rattle.script_lines.specs.ScriptLine.{Tree, Edit, Map, First, Last, Before, After, Insert, Delete, Replace}
use Rattle.std.proofs.Common.{arith}
use Rattle.syntax_editor.specs.MapError.TheVariants.{NotAChild, NotYounger}
use Rattle.syntax_editor.specs.declared.error.RecordError.TheVariants.{DeletesRoot}
use Rattle.syned_script.specs.declared.refusal.Refusal.TheVariants as refusal
use Rattle.syned_run.proofs.ScriptEdits.{no_places}
use Rattle.syned_run.proofs.ScriptPlaces.{address, placed, edited_at, unmapped, stays, differ, not_placed}
use Rattle.syned_run.specs.inner.SynedAnswer.{IsAnswer}
use Rattle.syned_run.proofs.ScriptTrees.{ref, node, token, literal, A, N, R, V, X, Y, from_arguments, on_arguments, text_N, text_V, text_X, text_Y, tree_N, tree_V, tree_X, tree_Y}
use Rattle.syned_run.proofs.ScriptAnswers.{edited, refused}

an_insert_moves_into_a_wrapped_literal : IsAnswer (on_arguments (text_X ++ text_N ++ codes "map N R/1 N/1\ninsert first R/1 X/0\nreplace R/1 N\nfinish\n")) 0 (codes "text \"((x7), 2)\"\nchanged 1\n")
unfolding fields words digits
an_insert_moves_into_a_wrapped_literal = edited_at _ _ (from_arguments (tree_X ∷ tree_N ∷ Map (N []) (R (1 ∷ [])) (N (1 ∷ [])) ∷ Insert (First (R (1 ∷ []))) (X (0 ∷ []) ∷ []) ∷ Replace (R (1 ∷ [])) (N [] ∷ []) ∷ [])) (placed 1 (1 ∷ []) no_places) ((((address 1 (1 ∷ []), refl, refl), refl), λ e _. cc), (tt, tt)) refl refl refl refl refl

a_payload_is_taken_as_it_was : IsAnswer (on_arguments (text_X ++ codes "insert first R/1 X/0\nreplace R/1 R\nfinish\n")) 0 (codes "text \"((x1, 2), 2)\"\nchanged 1\n")
unfolding fields words digits
a_payload_is_taken_as_it_was = edited_at _ _ (from_arguments (tree_X ∷ Insert (First (R (1 ∷ []))) (X (0 ∷ []) ∷ []) ∷ Replace (R (1 ∷ [])) (R [] ∷ []) ∷ [])) (placed 1 (1 ∷ []) no_places) ((((address 1 (1 ∷ []), refl, refl), refl), λ e _. cc), (tt, tt)) refl refl refl refl refl

a_gap_in_a_node_that_replaces_itself : IsAnswer (on_arguments (text_X ++ codes "replace R/1 R/1\ninsert first R/1 X/0\nfinish\n")) 0 (codes "text \"(x1, 2)\"\nchanged 1\n")
unfolding fields words digits
a_gap_in_a_node_that_replaces_itself = edited_at _ _ (from_arguments (tree_X ∷ Replace (R (1 ∷ [])) (R (1 ∷ []) ∷ []) ∷ Insert (First (R (1 ∷ []))) (X (0 ∷ []) ∷ []) ∷ [])) no_places (tt, (((refl, refl), λ e f. cc), tt)) refl refl refl refl refl

one_payload_of_two_owners : IsAnswer (on_arguments (text_X ++ text_Y ++ text_N ++ codes "map N R/1 N/1\nmap N R/4 N/1\ninsert first R/1 X/0\ninsert first R/4 Y/0\nreplace R/1 N\nreplace R/4 N\nfinish\n")) 0 (codes "text \"((x7), (y7))\"\nchanged 1 4\n")
unfolding fields words digits
one_payload_of_two_owners = edited_at _ _ (from_arguments (tree_X ∷ tree_Y ∷ tree_N ∷ Map (N []) (R (1 ∷ [])) (N (1 ∷ [])) ∷ Map (N []) (R (4 ∷ [])) (N (1 ∷ [])) ∷ Insert (First (R (1 ∷ []))) (X (0 ∷ []) ∷ []) ∷ Insert (First (R (4 ∷ []))) (Y (0 ∷ []) ∷ []) ∷ Replace (R (1 ∷ [])) (N [] ∷ []) ∷ Replace (R (4 ∷ [])) (N [] ∷ []) ∷ [])) (placed 3 (1 ∷ []) (placed 2 (1 ∷ []) no_places)) ((((address 1 (1 ∷ []), refl, refl), refl), λ e _. cc), ((((address 1 (4 ∷ []), refl, refl), refl), λ e _. cc), (tt, (tt, tt)))) refl refl refl refl refl

a_place_through_two_copies : IsAnswer (on_arguments (text_X ++ codes "tree C (TUPLE_EXPR L_PAREN\"(\" (LITERAL INT_NUMBER\"5\") R_PAREN\")\")\ntree N (ARG_LIST (TUPLE_EXPR L_PAREN\"<\" (LITERAL INT_NUMBER\"6\") R_PAREN\">\"))\nmap C R/1 C/1\nmap N C N/0\ninsert first R/1 X/0\nreplace R/1 N\nfinish\n")) 0 (codes "text \"(<x6>, 2)\"\nchanged 1\n")
unfolding fields words digits
a_place_through_two_copies = edited_at _ _ (from_arguments (tree_X ∷ Tree (codes "C") (node TUPLE_EXPR (token L_PAREN (codes "(") ∷ literal (codes "5") ∷ token R_PAREN (codes ")") ∷ [])) ∷ Tree (codes "N") (node ARG_LIST (node TUPLE_EXPR (token L_PAREN (codes "<") ∷ literal (codes "6") ∷ token R_PAREN (codes ">") ∷ []) ∷ [])) ∷ Map (ref (codes "C") []) (R (1 ∷ [])) (ref (codes "C") (1 ∷ [])) ∷ Map (N []) (ref (codes "C") []) (N (0 ∷ [])) ∷ Insert (First (R (1 ∷ []))) (X (0 ∷ []) ∷ []) ∷ Replace (R (1 ∷ [])) (N [] ∷ []) ∷ [])) (placed 1 (0 ∷ 1 ∷ []) no_places) ((((address 3 [], refl, (address 1 (1 ∷ []), refl, refl)), refl), λ e _. cc), (tt, tt)) refl refl refl refl refl

two_places_in_one_payload : IsAnswer (on_arguments (text_X ++ text_Y ++ codes "tree N (ARG_LIST (LITERAL INT_NUMBER\"7\") (LITERAL INT_NUMBER\"8\"))\nmap N R/1 N/0\nmap N R/4 N/1\ninsert first R/1 X/0\ninsert first R/4 Y/0\nreplace R/1 N\nreplace R/4 N\nfinish\n")) 0 (codes "text \"(x78, 7y8)\"\nchanged 1 4\n")
unfolding fields words digits
two_places_in_one_payload = edited_at _ _ (from_arguments (tree_X ∷ tree_Y ∷ Tree (codes "N") (node ARG_LIST (literal (codes "7") ∷ literal (codes "8") ∷ [])) ∷ Map (N []) (R (1 ∷ [])) (N (0 ∷ [])) ∷ Map (N []) (R (4 ∷ [])) (N (1 ∷ [])) ∷ Insert (First (R (1 ∷ []))) (X (0 ∷ []) ∷ []) ∷ Insert (First (R (4 ∷ []))) (Y (0 ∷ []) ∷ []) ∷ Replace (R (1 ∷ [])) (N [] ∷ []) ∷ Replace (R (4 ∷ [])) (N [] ∷ []) ∷ [])) (placed 3 (1 ∷ []) (placed 2 (0 ∷ []) no_places)) ((((address 1 (1 ∷ []), refl, refl), refl), λ e _. cc), ((((address 1 (4 ∷ []), refl, refl), refl), λ e _. cc), (tt, (tt, tt)))) refl refl refl refl refl

an_insert_into_a_root_that_replaces_itself : IsAnswer (on_arguments (text_X ++ codes "replace R R\ninsert first R X/0\nfinish\n")) 0 (codes "text \"x(1, 2)\"\nchanged .\n")
unfolding fields words digits
an_insert_into_a_root_that_replaces_itself = edited_at _ _ (from_arguments (tree_X ∷ Replace (R []) (R [] ∷ []) ∷ Insert (First (R [])) (X (0 ∷ []) ∷ []) ∷ [])) no_places (tt, (((refl, refl), λ e f. cc), tt)) refl refl refl refl refl

a_replacement_in_a_root_that_replaces_itself : IsAnswer (on_arguments (text_X ++ codes "replace R R\nreplace R/1 X/0\nfinish\n")) 0 (codes "text \"(x, 2)\"\nchanged .\n")
unfolding fields words digits
a_replacement_in_a_root_that_replaces_itself = edited_at _ _ (from_arguments (tree_X ∷ Replace (R []) (R [] ∷ []) ∷ Replace (R (1 ∷ [])) (X (0 ∷ []) ∷ []) ∷ [])) no_places (tt, (((refl, refl), λ e f. cc), tt)) refl refl refl refl refl

an_insert_into_the_payload_of_another_change_stays_out_of_it : IsAnswer (on_arguments (text_X ++ codes "insert first R/4 X/0\nreplace R/1 R/4\nfinish\n")) 0 (codes "text \"(2, x2)\"\nchanged 1 4/0\n")
unfolding fields words digits
an_insert_into_the_payload_of_another_change_stays_out_of_it = edited _ _ (from_arguments (tree_X ∷ Insert (First (R (4 ∷ []))) (X (0 ∷ []) ∷ []) ∷ Replace (R (1 ∷ [])) (R (4 ∷ []) ∷ []) ∷ [])) refl refl refl refl refl

a_token_and_an_insert_after_it : IsAnswer (on_arguments (text_X ++ text_Y ++ codes "replace R/2 X/0\ninsert after R/2 Y/0\nfinish\n")) 0 (codes "text \"(1xy 2)\"\nchanged 2 3\n")
unfolding fields words digits
a_token_and_an_insert_after_it = edited _ _ (from_arguments (tree_X ∷ tree_Y ∷ Replace (R (2 ∷ [])) (X (0 ∷ []) ∷ []) ∷ Insert (After (R (2 ∷ []))) (Y (0 ∷ []) ∷ []) ∷ [])) refl refl refl refl refl

two_for_a_token_and_an_insert_after_it : IsAnswer (on_arguments (text_X ++ text_Y ++ text_V ++ codes "replace R/2 X/0 Y/0\ninsert after R/2 V\nfinish\n")) 0 (codes "text \"(1xy() 2)\"\nchanged 2 3 4\n")
unfolding fields words digits
two_for_a_token_and_an_insert_after_it = edited _ _ (from_arguments (tree_X ∷ tree_Y ∷ tree_V ∷ Replace (R (2 ∷ [])) (X (0 ∷ []) ∷ Y (0 ∷ []) ∷ []) ∷ Insert (After (R (2 ∷ []))) (V [] ∷ []) ∷ [])) refl refl refl refl refl

an_empty_token_and_an_insert_after_it : IsAnswer (codes "tree A (ARG_LIST L_PAREN\"(\" COMMA\"\" R_PAREN\")\")\nedit R A\n" ++ text_X ++ text_Y ++ codes "replace R/1 X/0\ninsert after R/1 Y/0\nfinish\n") 0 (codes "text \"(xy)\"\nchanged 1 2\n")
unfolding fields words digits
an_empty_token_and_an_insert_after_it = edited _ _ (Tree (codes "A") (node ARG_LIST (token L_PAREN (codes "(") ∷ token COMMA (codes "") ∷ token R_PAREN (codes ")") ∷ [])) ∷ Edit (codes "R") (A []) ∷ tree_X ∷ tree_Y ∷ Replace (R (1 ∷ [])) (X (0 ∷ []) ∷ []) ∷ Insert (After (R (1 ∷ []))) (Y (0 ∷ []) ∷ []) ∷ []) refl refl refl refl refl

first_in_an_empty_node : IsAnswer (codes "tree A (ARG_LIST L_PAREN\"(\" (ATTR) R_PAREN\")\")\nedit R A\n" ++ text_X ++ codes "insert first R/1 X/0\nfinish\n") 0 (codes "text \"(x)\"\nchanged 1/0\n")
unfolding fields words digits
first_in_an_empty_node = edited _ _ (Tree (codes "A") (node ARG_LIST (token L_PAREN (codes "(") ∷ node ATTR [] ∷ token R_PAREN (codes ")") ∷ [])) ∷ Edit (codes "R") (A []) ∷ tree_X ∷ Insert (First (R (1 ∷ []))) (X (0 ∷ []) ∷ []) ∷ []) refl refl refl refl refl

last_in_an_empty_node : IsAnswer (codes "tree A (ARG_LIST L_PAREN\"(\" (ATTR) R_PAREN\")\")\nedit R A\n" ++ text_X ++ codes "insert last R/1 X/0\nfinish\n") 0 (codes "text \"(x)\"\nchanged 1/0\n")
unfolding fields words digits
last_in_an_empty_node = edited _ _ (Tree (codes "A") (node ARG_LIST (token L_PAREN (codes "(") ∷ node ATTR [] ∷ token R_PAREN (codes ")") ∷ [])) ∷ Edit (codes "R") (A []) ∷ tree_X ∷ Insert (Last (R (1 ∷ []))) (X (0 ∷ []) ∷ []) ∷ []) refl refl refl refl refl

an_insert_after_a_deleted_empty_node_is_dropped : IsAnswer (codes "tree A (ARG_LIST L_PAREN\"(\" (ATTR) R_PAREN\")\")\nedit R A\n" ++ text_X ++ codes "delete R/1\ninsert before R/2 X/0\nfinish\n") 0 (codes "text \"()\"\nchanged\n")
unfolding fields words digits
an_insert_after_a_deleted_empty_node_is_dropped = edited _ _ (Tree (codes "A") (node ARG_LIST (token L_PAREN (codes "(") ∷ node ATTR [] ∷ token R_PAREN (codes ")") ∷ [])) ∷ Edit (codes "R") (A []) ∷ tree_X ∷ Delete (R (1 ∷ [])) ∷ Insert (Before (R (2 ∷ []))) (X (0 ∷ []) ∷ []) ∷ []) refl refl refl refl refl

an_insert_before_a_deleted_empty_node : IsAnswer (codes "tree A (ARG_LIST L_PAREN\"(\" (ATTR) R_PAREN\")\")\nedit R A\n" ++ text_X ++ codes "delete R/1\ninsert before R/1 X/0\nfinish\n") 0 (codes "text \"(x)\"\nchanged 1\n")
unfolding fields words digits
an_insert_before_a_deleted_empty_node = edited _ _ (Tree (codes "A") (node ARG_LIST (token L_PAREN (codes "(") ∷ node ATTR [] ∷ token R_PAREN (codes ")") ∷ [])) ∷ Edit (codes "R") (A []) ∷ tree_X ∷ Delete (R (1 ∷ [])) ∷ Insert (Before (R (1 ∷ []))) (X (0 ∷ []) ∷ []) ∷ []) refl refl refl refl refl

an_insert_and_the_last_token_deleted : IsAnswer (codes "tree A (ARG_LIST L_PAREN\"(\" (ATTR) R_PAREN\")\")\nedit R A\n" ++ text_X ++ codes "insert after R/0 X/0\ndelete R/2\nfinish\n") 0 (codes "text \"(x\"\nchanged 1\n")
unfolding fields words digits
an_insert_and_the_last_token_deleted = edited _ _ (Tree (codes "A") (node ARG_LIST (token L_PAREN (codes "(") ∷ node ATTR [] ∷ token R_PAREN (codes ")") ∷ [])) ∷ Edit (codes "R") (A []) ∷ tree_X ∷ Insert (After (R (0 ∷ []))) (X (0 ∷ []) ∷ []) ∷ Delete (R (2 ∷ [])) ∷ []) refl refl refl refl refl

a_replacement_in_a_replaced_node : IsAnswer (on_arguments (text_X ++ codes "tree A3 (LITERAL INT_NUMBER\"3\")\nreplace R/1/0 X/0\nreplace R/1 A3\nfinish\n")) 1 (codes "refused MissingMapping 0 1\n")
unfolding fields words digits
a_replacement_in_a_replaced_node = not_placed _ _ (from_arguments (tree_X ∷ Tree (codes "A3") (literal (codes "3")) ∷ Replace (R (1 ∷ 0 ∷ [])) (X (0 ∷ []) ∷ []) ∷ Replace (R (1 ∷ [])) (ref (codes "A3") [] ∷ []) ∷ [])) 0 1 (refl, λ place h. unmapped (address 3 []) (address 1 (1 ∷ [])) place (differ 1 3 (omega arith)) h.0.0) refl refl refl refl refl refl

of_two_without_a_place_the_first_is_named : IsAnswer (on_arguments (text_X ++ codes "tree A3 (LITERAL INT_NUMBER\"3\")\ninsert first R/1 X/0\ninsert first R/4 X/0\nreplace R/4 A3\nreplace R/1 A3\nfinish\n")) 1 (codes "refused MissingMapping 0 3\n")
unfolding fields words digits
of_two_without_a_place_the_first_is_named = not_placed _ _ (from_arguments (tree_X ∷ Tree (codes "A3") (literal (codes "3")) ∷ Insert (First (R (1 ∷ []))) (X (0 ∷ []) ∷ []) ∷ Insert (First (R (4 ∷ []))) (X (0 ∷ []) ∷ []) ∷ Replace (R (4 ∷ [])) (ref (codes "A3") [] ∷ []) ∷ Replace (R (1 ∷ [])) (ref (codes "A3") [] ∷ []) ∷ [])) 0 3 (refl, λ place h. unmapped (address 3 []) (address 1 (1 ∷ [])) place (differ 1 3 (omega arith)) h.0.0) refl refl refl refl refl refl

a_replacement_in_a_replaced_node_that_comes_first : IsAnswer (on_arguments (text_X ++ codes "tree A3 (LITERAL INT_NUMBER\"3\")\nreplace R/1 A3\nreplace R/1/0 X/0\nfinish\n")) 1 (codes "refused MissingMapping 1 0\n")
unfolding fields words digits
a_replacement_in_a_replaced_node_that_comes_first = not_placed _ _ (from_arguments (tree_X ∷ Tree (codes "A3") (literal (codes "3")) ∷ Replace (R (1 ∷ [])) (ref (codes "A3") [] ∷ []) ∷ Replace (R (1 ∷ 0 ∷ [])) (X (0 ∷ []) ∷ []) ∷ [])) 1 0 (refl, λ place h. unmapped (address 3 []) (address 1 (1 ∷ [])) place (differ 1 3 (omega arith)) h.0.0) refl refl refl refl refl refl

no_gap_after_a_node_that_replaces_itself : IsAnswer (on_arguments (text_X ++ codes "replace R/1 R/1\ninsert after R/1 X/0\nfinish\n")) 1 (codes "refused MissingMapping 1 0\n")
unfolding fields words digits
no_gap_after_a_node_that_replaces_itself = not_placed _ _ (from_arguments (tree_X ∷ Replace (R (1 ∷ [])) (R (1 ∷ []) ∷ []) ∷ Insert (After (R (1 ∷ []))) (X (0 ∷ []) ∷ []) ∷ [])) 1 0 (refl, λ place h. h.1 (stays (address 1 (1 ∷ [])) place h.0.0) refl) refl refl refl refl refl refl

an_insert_into_a_replaced_root : IsAnswer (on_arguments (text_X ++ text_V ++ codes "replace R V\ninsert first R X/0\nfinish\n")) 1 (codes "refused MissingMapping 1 0\n")
unfolding fields words digits
an_insert_into_a_replaced_root = not_placed _ _ (from_arguments (tree_X ∷ tree_V ∷ Replace (R []) (V [] ∷ []) ∷ Insert (First (R [])) (X (0 ∷ []) ∷ []) ∷ [])) 1 0 (refl, λ place h. unmapped (address 3 []) (address 1 []) place (differ 1 3 (omega arith)) h.0.0) refl refl refl refl refl refl

a_later_pair_stands : IsAnswer (on_arguments (text_X ++ codes "tree N (ARG_LIST (LITERAL INT_NUMBER\"7\") (LITERAL INT_NUMBER\"8\"))\nmap N R/1 N/0\nmap N R/1 N/1\ninsert first R/1 X/0\nreplace R/1 N\nfinish\n")) 0 (codes "text \"(7x8, 2)\"\nchanged 1\n")
unfolding fields words digits
a_later_pair_stands = edited_at _ _ (from_arguments (tree_X ∷ Tree (codes "N") (node ARG_LIST (literal (codes "7") ∷ literal (codes "8") ∷ [])) ∷ Map (N []) (R (1 ∷ [])) (N (0 ∷ [])) ∷ Map (N []) (R (1 ∷ [])) (N (1 ∷ [])) ∷ Insert (First (R (1 ∷ []))) (X (0 ∷ []) ∷ []) ∷ Replace (R (1 ∷ [])) (N [] ∷ []) ∷ [])) (placed 1 (1 ∷ []) no_places) ((((address 1 (1 ∷ []), refl, refl), refl), λ e _. cc), (tt, tt)) refl refl refl refl refl

a_copy_that_is_not_under_its_parent : IsAnswer (codes "tree A (BLOCK_EXPR (STMT_LIST L_CURLY\"{\" WHITESPACE\"\\n    \" (LET_STMT LET_KW\"let\" WHITESPACE\" \" (IDENT_PAT (NAME IDENT\"second\")) WHITESPACE\" \" EQ\"=\" WHITESPACE\" \" (LITERAL INT_NUMBER\"2\") SEMICOLON\";\") WHITESPACE\"\\n\" R_CURLY\"}\"))\nedit R A\ntree N (BLOCK_EXPR (STMT_LIST L_CURLY\"{\" WHITESPACE\"\\n    \" (BLOCK_EXPR (STMT_LIST L_CURLY\"{\" WHITESPACE\"\\n    \" (LET_STMT LET_KW\"let\" WHITESPACE\" \" (IDENT_PAT (NAME IDENT\"second\")) WHITESPACE\" \" EQ\"=\" WHITESPACE\" \" (LITERAL INT_NUMBER\"2\") SEMICOLON\";\") WHITESPACE\"\\n\" R_CURLY\"}\")) WHITESPACE\"\\n\" R_CURLY\"}\"))\nmap N N/0/2 R\nfinish\n") 1 (codes "refused NotAChild\n")
unfolding fields words digits
a_copy_that_is_not_under_its_parent = refused _ _ (Tree (codes "A") (node BLOCK_EXPR (node STMT_LIST (token L_CURLY (codes "{") ∷ token WHITESPACE (codes "\n    ") ∷ node LET_STMT (token LET_KW (codes "let") ∷ token WHITESPACE (codes " ") ∷ node IDENT_PAT (node NAME (token IDENT (codes "second") ∷ []) ∷ []) ∷ token WHITESPACE (codes " ") ∷ token EQ (codes "=") ∷ token WHITESPACE (codes " ") ∷ literal (codes "2") ∷ token SEMICOLON (codes ";") ∷ []) ∷ token WHITESPACE (codes "\n") ∷ token R_CURLY (codes "}") ∷ []) ∷ [])) ∷ Edit (codes "R") (A []) ∷ Tree (codes "N") (node BLOCK_EXPR (node STMT_LIST (token L_CURLY (codes "{") ∷ token WHITESPACE (codes "\n    ") ∷ node BLOCK_EXPR (node STMT_LIST (token L_CURLY (codes "{") ∷ token WHITESPACE (codes "\n    ") ∷ node LET_STMT (token LET_KW (codes "let") ∷ token WHITESPACE (codes " ") ∷ node IDENT_PAT (node NAME (token IDENT (codes "second") ∷ []) ∷ []) ∷ token WHITESPACE (codes " ") ∷ token EQ (codes "=") ∷ token WHITESPACE (codes " ") ∷ literal (codes "2") ∷ token SEMICOLON (codes ";") ∷ []) ∷ token WHITESPACE (codes "\n") ∷ token R_CURLY (codes "}") ∷ []) ∷ []) ∷ token WHITESPACE (codes "\n") ∷ token R_CURLY (codes "}") ∷ []) ∷ [])) ∷ []) (Map (N []) (N (0 ∷ 2 ∷ [])) (R [])) (refusal.Map NotAChild) refl refl refl refl

a_copy_in_an_older_tree : IsAnswer (codes "tree A (BLOCK_EXPR (STMT_LIST L_CURLY\"{\" WHITESPACE\"\\n    \" (LET_STMT LET_KW\"let\" WHITESPACE\" \" (IDENT_PAT (NAME IDENT\"second\")) WHITESPACE\" \" EQ\"=\" WHITESPACE\" \" (LITERAL INT_NUMBER\"2\") SEMICOLON\";\") WHITESPACE\"\\n\" R_CURLY\"}\"))\nedit R A\ntree N (BLOCK_EXPR (STMT_LIST L_CURLY\"{\" WHITESPACE\"\\n    \" (BLOCK_EXPR (STMT_LIST L_CURLY\"{\" WHITESPACE\"\\n    \" (LET_STMT LET_KW\"let\" WHITESPACE\" \" (IDENT_PAT (NAME IDENT\"second\")) WHITESPACE\" \" EQ\"=\" WHITESPACE\" \" (LITERAL INT_NUMBER\"2\") SEMICOLON\";\") WHITESPACE\"\\n\" R_CURLY\"}\")) WHITESPACE\"\\n\" R_CURLY\"}\"))\nmap R/0 N/0/2/0/2 R/0/2\nfinish\n") 1 (codes "refused NotYounger\n")
unfolding fields words digits
a_copy_in_an_older_tree = refused _ _ (Tree (codes "A") (node BLOCK_EXPR (node STMT_LIST (token L_CURLY (codes "{") ∷ token WHITESPACE (codes "\n    ") ∷ node LET_STMT (token LET_KW (codes "let") ∷ token WHITESPACE (codes " ") ∷ node IDENT_PAT (node NAME (token IDENT (codes "second") ∷ []) ∷ []) ∷ token WHITESPACE (codes " ") ∷ token EQ (codes "=") ∷ token WHITESPACE (codes " ") ∷ literal (codes "2") ∷ token SEMICOLON (codes ";") ∷ []) ∷ token WHITESPACE (codes "\n") ∷ token R_CURLY (codes "}") ∷ []) ∷ [])) ∷ Edit (codes "R") (A []) ∷ Tree (codes "N") (node BLOCK_EXPR (node STMT_LIST (token L_CURLY (codes "{") ∷ token WHITESPACE (codes "\n    ") ∷ node BLOCK_EXPR (node STMT_LIST (token L_CURLY (codes "{") ∷ token WHITESPACE (codes "\n    ") ∷ node LET_STMT (token LET_KW (codes "let") ∷ token WHITESPACE (codes " ") ∷ node IDENT_PAT (node NAME (token IDENT (codes "second") ∷ []) ∷ []) ∷ token WHITESPACE (codes " ") ∷ token EQ (codes "=") ∷ token WHITESPACE (codes " ") ∷ literal (codes "2") ∷ token SEMICOLON (codes ";") ∷ []) ∷ token WHITESPACE (codes "\n") ∷ token R_CURLY (codes "}") ∷ []) ∷ []) ∷ token WHITESPACE (codes "\n") ∷ token R_CURLY (codes "}") ∷ []) ∷ [])) ∷ []) (Map (R (0 ∷ [])) (N (0 ∷ 2 ∷ 0 ∷ 2 ∷ [])) (R (0 ∷ 2 ∷ []))) (refusal.Map NotYounger) refl refl refl refl

a_refused_call_comes_before_what_the_end_would_refuse : IsAnswer (on_arguments (text_X ++ codes "replace R/1 R/1\ninsert after R/1 X/0\ndelete R\nfinish\n")) 1 (codes "refused DeletesRoot\n")
unfolding fields words digits
a_refused_call_comes_before_what_the_end_would_refuse = refused _ _ (from_arguments (tree_X ∷ Replace (R (1 ∷ [])) (R (1 ∷ []) ∷ []) ∷ Insert (After (R (1 ∷ []))) (X (0 ∷ []) ∷ []) ∷ [])) (Delete (R [])) (refusal.Record DeletesRoot) refl refl refl refl
