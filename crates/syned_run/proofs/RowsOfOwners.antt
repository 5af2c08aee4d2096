-- Worked scripts with an order, in which a change moves into what replaces a node around it.
use Rattle.std.specs.Prelude.{[], ◌∷◌, ◌++◌, codes, refl}
use Rattle.std.specs.Fmt.{digits}
use Rattle.cst_core.specs.Kinds.{BLOCK_EXPR, EQ, IDENT, IDENT_PAT, LET_KW, LET_STMT, L_CURLY, NAME, R_CURLY, SEMICOLON, STMT_LIST, WHITESPACE}
use Rattle.script_lines.specs.Line.{fields, words}
use Rattle.script_lines.specs.ScriptLine.{Tree, Edit, Map, First, Last, Before, After, Insert, Delete, Replace, Range, Note, Remove, Order}
use Rattle.syned_run.proofs.ScriptEdits.{no_places}
use Rattle.syned_run.proofs.ScriptPlaces.{address, placed, edited_at_by, owner_too_early}
use Rattle.syned_run.specs.inner.SynedAnswer.{IsAnswer}
use Rattle.syned_run.proofs.ScriptTrees.{ref, node, token, literal, A, N, R, U, from_arguments, on_arguments, text_N, text_U, tree_N, tree_U}

every_word : IsAnswer (on_arguments (text_N ++ text_U ++ codes "map N R/1 N/1\nnote w R/1\nnote v R/5\ninsert first R/1 U/0\ninsert last R U/0 U\ninsert before R/1 U/0\ninsert after R/4\nreplace R/1 N\nreplace R/0 U/0 U/0\nrange R/2 R/3 U/0\ndelete R/5\nremove R/4 SEMICOLON\norder 1 2 6 0 4 5 7 8\nfinish\n")) 0 (codes "text \"___(_7)___\"\nchanged 0 1 2 3 4 5 6\nnote w 3/1\nnote v\n")
unfolding fields words digits
every_word = edited_at_by _ _ (from_arguments (tree_N ∷ tree_U ∷ Map (N []) (R (1 ∷ [])) (N (1 ∷ [])) ∷ Note (codes "w") (R (1 ∷ [])) ∷ Note (codes "v") (R (5 ∷ [])) ∷ Insert (First (R (1 ∷ []))) (U (0 ∷ []) ∷ []) ∷ Insert (Last (R [])) (U (0 ∷ []) ∷ U [] ∷ []) ∷ Insert (Before (R (1 ∷ []))) (U (0 ∷ []) ∷ []) ∷ Insert (After (R (4 ∷ []))) [] ∷ Replace (R (1 ∷ [])) (N [] ∷ []) ∷ Replace (R (0 ∷ [])) (U (0 ∷ []) ∷ U (0 ∷ []) ∷ []) ∷ Range (R (2 ∷ [])) (R (3 ∷ [])) (U (0 ∷ []) ∷ []) ∷ Delete (R (5 ∷ [])) ∷ Remove (R (4 ∷ [])) SEMICOLON ∷ Order (1 ∷ 2 ∷ 6 ∷ 0 ∷ 4 ∷ 5 ∷ 7 ∷ 8 ∷ []) ∷ [])) (placed 4 (1 ∷ []) no_places) (1 ∷ 2 ∷ 6 ∷ 0 ∷ 4 ∷ 5 ∷ 7 ∷ 8 ∷ []) ((((address 1 (1 ∷ []), refl, refl), refl), λ e _. cc), (tt, (tt, (tt, (tt, (tt, (tt, (tt, (tt, tt))))))))) refl refl refl refl refl refl

inserts_into_a_wrapped_block_by_0_1_2 : IsAnswer (codes "tree A (BLOCK_EXPR (STMT_LIST L_CURLY\"{\" WHITESPACE\"\\n    \" (BLOCK_EXPR (STMT_LIST L_CURLY\"{\" WHITESPACE\"\\n    \" (LET_STMT LET_KW\"let\" WHITESPACE\" \" (IDENT_PAT (NAME IDENT\"second\")) WHITESPACE\" \" EQ\"=\" WHITESPACE\" \" (LITERAL INT_NUMBER\"2\") SEMICOLON\";\") WHITESPACE\"\\n\" R_CURLY\"}\")) WHITESPACE\"\\n\" R_CURLY\"}\"))\nedit R A\ntree S1 (LET_STMT LET_KW\"let\" WHITESPACE\" \" (IDENT_PAT (NAME IDENT\"first\")) WHITESPACE\" \" EQ\"=\" WHITESPACE\" \" (LITERAL INT_NUMBER\"1\") SEMICOLON\";\")\ntree S3 (LET_STMT LET_KW\"let\" WHITESPACE\" \" (IDENT_PAT (NAME IDENT\"third\")) WHITESPACE\" \" EQ\"=\" WHITESPACE\" \" (LITERAL INT_NUMBER\"3\") SEMICOLON\";\")\ntree N (BLOCK_EXPR (STMT_LIST L_CURLY\"{\" WHITESPACE\"\\n    \" (BLOCK_EXPR (STMT_LIST L_CURLY\"{\" WHITESPACE\"\\n    \" (LET_STMT LET_KW\"let\" WHITESPACE\" \" (IDENT_PAT (NAME IDENT\"second\")) WHITESPACE\" \" EQ\"=\" WHITESPACE\" \" (LITERAL INT_NUMBER\"2\") SEMICOLON\";\") WHITESPACE\"\\n\" R_CURLY\"}\")) WHITESPACE\"\\n\" R_CURLY\"}\"))\nmap N/0 R/0/2 N/0/2\ninsert first R/0/2/0 S1\ninsert after R/0/2/0/2 S3\nreplace R/0/2 N\norder 0 1 2\nfinish\n") 0 (codes "text \"{\\n    {\\n    let first = 1;{\\n    let second = 2;let third = 3;\\n}\\n}\\n}\"\nchanged 0/2\n")
unfolding fields words digits
inserts_into_a_wrapped_block_by_0_1_2 = edited_at_by _ _ (Tree (codes "A") (node BLOCK_EXPR (node STMT_LIST (token L_CURLY (codes "{") ∷ token WHITESPACE (codes "\n    ") ∷ node BLOCK_EXPR (node STMT_LIST (token L_CURLY (codes "{") ∷ token WHITESPACE (codes "\n    ") ∷ node LET_STMT (token LET_KW (codes "let") ∷ token WHITESPACE (codes " ") ∷ node IDENT_PAT (node NAME (token IDENT (codes "second") ∷ []) ∷ []) ∷ token WHITESPACE (codes " ") ∷ token EQ (codes "=") ∷ token WHITESPACE (codes " ") ∷ literal (codes "2") ∷ token SEMICOLON (codes ";") ∷ []) ∷ token WHITESPACE (codes "\n") ∷ token R_CURLY (codes "}") ∷ []) ∷ []) ∷ token WHITESPACE (codes "\n") ∷ token R_CURLY (codes "}") ∷ []) ∷ [])) ∷ Edit (codes "R") (A []) ∷ Tree (codes "S1") (node LET_STMT (token LET_KW (codes "let") ∷ token WHITESPACE (codes " ") ∷ node IDENT_PAT (node NAME (token IDENT (codes "first") ∷ []) ∷ []) ∷ token WHITESPACE (codes " ") ∷ token EQ (codes "=") ∷ token WHITESPACE (codes " ") ∷ literal (codes "1") ∷ token SEMICOLON (codes ";") ∷ [])) ∷ Tree (codes "S3") (node LET_STMT (token LET_KW (codes "let") ∷ token WHITESPACE (codes " ") ∷ node IDENT_PAT (node NAME (token IDENT (codes "third") ∷ []) ∷ []) ∷ token WHITESPACE (codes " ") ∷ token EQ (codes "=") ∷ token WHITESPACE (codes " ") ∷ literal (codes "3") ∷ token SEMICOLON (codes ";") ∷ [])) ∷ Tree (codes "N") (node BLOCK_EXPR (node STMT_LIST (token L_CURLY (codes "{") ∷ token WHITESPACE (codes "\n    ") ∷ node BLOCK_EXPR (node STMT_LIST (token L_CURLY (codes "{") ∷ token WHITESPACE (codes "\n    ") ∷ node LET_STMT (token LET_KW (codes "let") ∷ token WHITESPACE (codes " ") ∷ node IDENT_PAT (node NAME (token IDENT (codes "second") ∷ []) ∷ []) ∷ token WHITESPACE (codes " ") ∷ token EQ (codes "=") ∷ token WHITESPACE (codes " ") ∷ literal (codes "2") ∷ token SEMICOLON (codes ";") ∷ []) ∷ token WHITESPACE (codes "\n") ∷ token R_CURLY (codes "}") ∷ []) ∷ []) ∷ token WHITESPACE (codes "\n") ∷ token R_CURLY (codes "}") ∷ []) ∷ [])) ∷ Map (N (0 ∷ [])) (R (0 ∷ 2 ∷ [])) (N (0 ∷ 2 ∷ [])) ∷ Insert (First (R (0 ∷ 2 ∷ 0 ∷ []))) (ref (codes "S1") [] ∷ []) ∷ Insert (After (R (0 ∷ 2 ∷ 0 ∷ 2 ∷ []))) (ref (codes "S3") [] ∷ []) ∷ Replace (R (0 ∷ 2 ∷ [])) (N [] ∷ []) ∷ Order (0 ∷ 1 ∷ 2 ∷ []) ∷ []) (placed 2 (0 ∷ 2 ∷ []) no_places) (0 ∷ 1 ∷ 2 ∷ []) ((((address 4 (0 ∷ []), refl, (address 1 (0 ∷ 2 ∷ []), refl, refl)), refl), λ e _. cc), ((((address 4 (0 ∷ []), refl, (address 1 (0 ∷ 2 ∷ []), refl, refl)), refl), λ e _. cc), (tt, tt))) refl refl refl refl refl refl

inserts_into_a_wrapped_block_by_1_0_2 : IsAnswer (codes "tree A (BLOCK_EXPR (STMT_LIST L_CURLY\"{\" WHITESPACE\"\\n    \" (BLOCK_EXPR (STMT_LIST L_CURLY\"{\" WHITESPACE\"\\n    \" (LET_STMT LET_KW\"let\" WHITESPACE\" \" (IDENT_PAT (NAME IDENT\"second\")) WHITESPACE\" \" EQ\"=\" WHITESPACE\" \" (LITERAL INT_NUMBER\"2\") SEMICOLON\";\") WHITESPACE\"\\n\" R_CURLY\"}\")) WHITESPACE\"\\n\" R_CURLY\"}\"))\nedit R A\ntree S1 (LET_STMT LET_KW\"let\" WHITESPACE\" \" (IDENT_PAT (NAME IDENT\"first\")) WHITESPACE\" \" EQ\"=\" WHITESPACE\" \" (LITERAL INT_NUMBER\"1\") SEMICOLON\";\")\ntree S3 (LET_STMT LET_KW\"let\" WHITESPACE\" \" (IDENT_PAT (NAME IDENT\"third\")) WHITESPACE\" \" EQ\"=\" WHITESPACE\" \" (LITERAL INT_NUMBER\"3\") SEMICOLON\";\")\ntree N (BLOCK_EXPR (STMT_LIST L_CURLY\"{\" WHITESPACE\"\\n    \" (BLOCK_EXPR (STMT_LIST L_CURLY\"{\" WHITESPACE\"\\n    \" (LET_STMT LET_KW\"let\" WHITESPACE\" \" (IDENT_PAT (NAME IDENT\"second\")) WHITESPACE\" \" EQ\"=\" WHITESPACE\" \" (LITERAL INT_NUMBER\"2\") SEMICOLON\";\") WHITESPACE\"\\n\" R_CURLY\"}\")) WHITESPACE\"\\n\" R_CURLY\"}\"))\nmap N/0 R/0/2 N/0/2\ninsert first R/0/2/0 S1\ninsert after R/0/2/0/2 S3\nreplace R/0/2 N\norder 1 0 2\nfinish\n") 0 (codes "text \"{\\n    {\\n    let first = 1;{\\n    let second = 2;let third = 3;\\n}\\n}\\n}\"\nchanged 0/2\n")
unfolding fields words digits
inserts_into_a_wrapped_block_by_1_0_2 = edited_at_by _ _ (Tree (codes "A") (node BLOCK_EXPR (node STMT_LIST (token L_CURLY (codes "{") ∷ token WHITESPACE (codes "\n    ") ∷ node BLOCK_EXPR (node STMT_LIST (token L_CURLY (codes "{") ∷ token WHITESPACE (codes "\n    ") ∷ node LET_STMT (token LET_KW (codes "let") ∷ token WHITESPACE (codes " ") ∷ node IDENT_PAT (node NAME (token IDENT (codes "second") ∷ []) ∷ []) ∷ token WHITESPACE (codes " ") ∷ token EQ (codes "=") ∷ token WHITESPACE (codes " ") ∷ literal (codes "2") ∷ token SEMICOLON (codes ";") ∷ []) ∷ token WHITESPACE (codes "\n") ∷ token R_CURLY (codes "}") ∷ []) ∷ []) ∷ token WHITESPACE (codes "\n") ∷ token R_CURLY (codes "}") ∷ []) ∷ [])) ∷ Edit (codes "R") (A []) ∷ Tree (codes "S1") (node LET_STMT (token LET_KW (codes "let") ∷ token WHITESPACE (codes " ") ∷ node IDENT_PAT (node NAME (token IDENT (codes "first") ∷ []) ∷ []) ∷ token WHITESPACE (codes " ") ∷ token EQ (codes "=") ∷ token WHITESPACE (codes " ") ∷ literal (codes "1") ∷ token SEMICOLON (codes ";") ∷ [])) ∷ Tree (codes "S3") (node LET_STMT (token LET_KW (codes "let") ∷ token WHITESPACE (codes " ") ∷ node IDENT_PAT (node NAME (token IDENT (codes "third") ∷ []) ∷ []) ∷ token WHITESPACE (codes " ") ∷ token EQ (codes "=") ∷ token WHITESPACE (codes " ") ∷ literal (codes "3") ∷ token SEMICOLON (codes ";") ∷ [])) ∷ Tree (codes "N") (node BLOCK_EXPR (node STMT_LIST (token L_CURLY (codes "{") ∷ token WHITESPACE (codes "\n    ") ∷ node BLOCK_EXPR (node STMT_LIST (token L_CURLY (codes "{") ∷ token WHITESPACE (codes "\n    ") ∷ node LET_STMT (token LET_KW (codes "let") ∷ token WHITESPACE (codes " ") ∷ node IDENT_PAT (node NAME (token IDENT (codes "second") ∷ []) ∷ []) ∷ token WHITESPACE (codes " ") ∷ token EQ (codes "=") ∷ token WHITESPACE (codes " ") ∷ literal (codes "2") ∷ token SEMICOLON (codes ";") ∷ []) ∷ token WHITESPACE (codes "\n") ∷ token R_CURLY (codes "}") ∷ []) ∷ []) ∷ token WHITESPACE (codes "\n") ∷ token R_CURLY (codes "}") ∷ []) ∷ [])) ∷ Map (N (0 ∷ [])) (R (0 ∷ 2 ∷ [])) (N (0 ∷ 2 ∷ [])) ∷ Insert (First (R (0 ∷ 2 ∷ 0 ∷ []))) (ref (codes "S1") [] ∷ []) ∷ Insert (After (R (0 ∷ 2 ∷ 0 ∷ 2 ∷ []))) (ref (codes "S3") [] ∷ []) ∷ Replace (R (0 ∷ 2 ∷ [])) (N [] ∷ []) ∷ Order (1 ∷ 0 ∷ 2 ∷ []) ∷ []) (placed 2 (0 ∷ 2 ∷ []) no_places) (1 ∷ 0 ∷ 2 ∷ []) ((((address 4 (0 ∷ []), refl, (address 1 (0 ∷ 2 ∷ []), refl, refl)), refl), λ e _. cc), ((((address 4 (0 ∷ []), refl, (address 1 (0 ∷ 2 ∷ []), refl, refl)), refl), λ e _. cc), (tt, tt))) refl refl refl refl refl refl

inserts_into_a_wrapped_block_by_2_0_1 : IsAnswer (codes "tree A (BLOCK_EXPR (STMT_LIST L_CURLY\"{\" WHITESPACE\"\\n    \" (BLOCK_EXPR (STMT_LIST L_CURLY\"{\" WHITESPACE\"\\n    \" (LET_STMT LET_KW\"let\" WHITESPACE\" \" (IDENT_PAT (NAME IDENT\"second\")) WHITESPACE\" \" EQ\"=\" WHITESPACE\" \" (LITERAL INT_NUMBER\"2\") SEMICOLON\";\") WHITESPACE\"\\n\" R_CURLY\"}\")) WHITESPACE\"\\n\" R_CURLY\"}\"))\nedit R A\ntree S1 (LET_STMT LET_KW\"let\" WHITESPACE\" \" (IDENT_PAT (NAME IDENT\"first\")) WHITESPACE\" \" EQ\"=\" WHITESPACE\" \" (LITERAL INT_NUMBER\"1\") SEMICOLON\";\")\ntree S3 (LET_STMT LET_KW\"let\" WHITESPACE\" \" (IDENT_PAT (NAME IDENT\"third\")) WHITESPACE\" \" EQ\"=\" WHITESPACE\" \" (LITERAL INT_NUMBER\"3\") SEMICOLON\";\")\ntree N (BLOCK_EXPR (STMT_LIST L_CURLY\"{\" WHITESPACE\"\\n    \" (BLOCK_EXPR (STMT_LIST L_CURLY\"{\" WHITESPACE\"\\n    \" (LET_STMT LET_KW\"let\" WHITESPACE\" \" (IDENT_PAT (NAME IDENT\"second\")) WHITESPACE\" \" EQ\"=\" WHITESPACE\" \" (LITERAL INT_NUMBER\"2\") SEMICOLON\";\") WHITESPACE\"\\n\" R_CURLY\"}\")) WHITESPACE\"\\n\" R_CURLY\"}\"))\nmap N/0 R/0/2 N/0/2\ninsert first R/0/2/0 S1\ninsert after R/0/2/0/2 S3\nreplace R/0/2 N\norder 2 0 1\nfinish\n") 1 (codes "refused OwnerTooEarly\n")
unfolding fields words digits
inserts_into_a_wrapped_block_by_2_0_1 = owner_too_early _ _ (Tree (codes "A") (node BLOCK_EXPR (node STMT_LIST (token L_CURLY (codes "{") ∷ token WHITESPACE (codes "\n    ") ∷ node BLOCK_EXPR (node STMT_LIST (token L_CURLY (codes "{") ∷ token WHITESPACE (codes "\n    ") ∷ node LET_STMT (token LET_KW (codes "let") ∷ token WHITESPACE (codes " ") ∷ node IDENT_PAT (node NAME (token IDENT (codes "second") ∷ []) ∷ []) ∷ token WHITESPACE (codes " ") ∷ token EQ (codes "=") ∷ token WHITESPACE (codes " ") ∷ literal (codes "2") ∷ token SEMICOLON (codes ";") ∷ []) ∷ token WHITESPACE (codes "\n") ∷ token R_CURLY (codes "}") ∷ []) ∷ []) ∷ token WHITESPACE (codes "\n") ∷ token R_CURLY (codes "}") ∷ []) ∷ [])) ∷ Edit (codes "R") (A []) ∷ Tree (codes "S1") (node LET_STMT (token LET_KW (codes "let") ∷ token WHITESPACE (codes " ") ∷ node IDENT_PAT (node NAME (token IDENT (codes "first") ∷ []) ∷ []) ∷ token WHITESPACE (codes " ") ∷ token EQ (codes "=") ∷ token WHITESPACE (codes " ") ∷ literal (codes "1") ∷ token SEMICOLON (codes ";") ∷ [])) ∷ Tree (codes "S3") (node LET_STMT (token LET_KW (codes "let") ∷ token WHITESPACE (codes " ") ∷ node IDENT_PAT (node NAME (token IDENT (codes "third") ∷ []) ∷ []) ∷ token WHITESPACE (codes " ") ∷ token EQ (codes "=") ∷ token WHITESPACE (codes " ") ∷ literal (codes "3") ∷ token SEMICOLON (codes ";") ∷ [])) ∷ Tree (codes "N") (node BLOCK_EXPR (node STMT_LIST (token L_CURLY (codes "{") ∷ token WHITESPACE (codes "\n    ") ∷ node BLOCK_EXPR (node STMT_LIST (token L_CURLY (codes "{") ∷ token WHITESPACE (codes "\n    ") ∷ node LET_STMT (token LET_KW (codes "let") ∷ token WHITESPACE (codes " ") ∷ node IDENT_PAT (node NAME (token IDENT (codes "second") ∷ []) ∷ []) ∷ token WHITESPACE (codes " ") ∷ token EQ (codes "=") ∷ token WHITESPACE (codes " ") ∷ literal (codes "2") ∷ token SEMICOLON (codes ";") ∷ []) ∷ token WHITESPACE (codes "\n") ∷ token R_CURLY (codes "}") ∷ []) ∷ []) ∷ token WHITESPACE (codes "\n") ∷ token R_CURLY (codes "}") ∷ []) ∷ [])) ∷ Map (N (0 ∷ [])) (R (0 ∷ 2 ∷ [])) (N (0 ∷ 2 ∷ [])) ∷ Insert (First (R (0 ∷ 2 ∷ 0 ∷ []))) (ref (codes "S1") [] ∷ []) ∷ Insert (After (R (0 ∷ 2 ∷ 0 ∷ 2 ∷ []))) (ref (codes "S3") [] ∷ []) ∷ Replace (R (0 ∷ 2 ∷ [])) (N [] ∷ []) ∷ Order (2 ∷ 0 ∷ 1 ∷ []) ∷ []) (placed 2 (0 ∷ 2 ∷ []) no_places) (2 ∷ 0 ∷ 1 ∷ []) ((((address 4 (0 ∷ []), refl, (address 1 (0 ∷ 2 ∷ []), refl, refl)), refl), λ e _. cc), ((((address 4 (0 ∷ []), refl, (address 1 (0 ∷ 2 ∷ []), refl, refl)), refl), λ e _. cc), (tt, tt))) refl refl refl refl refl refl refl
