-- Worked scripts: the examples of the page that describes scripts.
use Rattle.std.specs.Prelude.{[], ◌∷◌, ◌++◌, codes, refl}
use Rattle.std.specs.Fmt.{digits}
use Rattle.cst_core.specs.Kinds.{ARG_LIST, BIN_EXPR, BLOCK_EXPR, COMMA, EXPR_STMT, GENERIC_ARG_LIST, IDENT, INT_NUMBER, LET_KW, LET_STMT, LIFETIME, LIFETIME_IDENT, L_ANGLE, L_CURLY, L_PAREN, NAME, NAME_REF, PLUS, R_ANGLE, R_CURLY, R_PAREN, SEMICOLON, SOURCE_FILE, STMT_LIST, WHITESPACE}
use Rattle.script_lines.specs.Line.{fields, words}
use Rattle.script_lines.specs.ScriptLine.{Blank, Tree, Edit, Map, After, Insert, Delete, Replace, Range, Note, Remove, Order}
use Rattle.syntax_editor.specs.EditError.TheVariants.{Intersecting}
use Rattle.syned_script.specs.declared.refusal.Refusal.TheVariants as refusal
use Rattle.syned_run.proofs.ScriptEdits.{no_places}
use Rattle.syned_run.proofs.ScriptOrders.{edited_by}
use Rattle.syned_run.proofs.ScriptPlaces.{address, placed, edited_at}
use Rattle.syned_run.specs.inner.SynedAnswer.{IsAnswer}
use Rattle.syned_run.proofs.ScriptTrees.{ref, node, token, A, R, U, X, Y, text_U, text_X, text_Y, tree_A, tree_U, tree_X, tree_Y}
use Rattle.syned_run.proofs.ScriptAnswers.{edited, not_carried_out}

literal_replaced : IsAnswer (codes "# One literal of an argument list is replaced by an underscore. The tree A stays as it is: R is its root, and R/1 the\n# literal `1`. The new token is taken from a tree of its own, and put where the literal stood; all else is shared.\n# The answer is the new text, and the path of what changed.\ntree A (ARG_LIST L_PAREN\"(\" (LITERAL INT_NUMBER\"1\") COMMA\",\" WHITESPACE\" \" (LITERAL INT_NUMBER\"2\") R_PAREN\")\")\nedit R A\n" ++ text_U ++ codes "replace R/1 U/0\nfinish\n") 0 (codes "text \"(_, 2)\"\nchanged 1\n")
unfolding fields words digits
literal_replaced = edited _ _ (Blank ∷ Blank ∷ Blank ∷ tree_A ∷ Edit (codes "R") (A []) ∷ tree_U ∷ Replace (R (1 ∷ [])) (U (0 ∷ []) ∷ []) ∷ []) refl refl refl refl refl

arguments_exchanged_and_one_removed : IsAnswer (codes "# An assist: two arguments change places, and the third is removed with its comma.\n# Each payload is taken in its original form, so neither replacement sees the other.\ntree FILE (ARG_LIST L_PAREN\"(\" IDENT\"a\" COMMA\",\" WHITESPACE\" \" IDENT\"b\" COMMA\",\" WHITESPACE\" \" IDENT\"c\" R_PAREN\")\")\nedit R FILE\nreplace R/1 R/4\nreplace R/4 R/1\nremove R/7 COMMA\nfinish\n") 0 (codes "text \"(b, a)\"\nchanged 1 4\n")
unfolding fields words digits
arguments_exchanged_and_one_removed = edited _ _ (Blank ∷ Blank ∷ Tree (codes "FILE") (node ARG_LIST (token L_PAREN (codes "(") ∷ token IDENT (codes "a") ∷ token COMMA (codes ",") ∷ token WHITESPACE (codes " ") ∷ token IDENT (codes "b") ∷ token COMMA (codes ",") ∷ token WHITESPACE (codes " ") ∷ token IDENT (codes "c") ∷ token R_PAREN (codes ")") ∷ [])) ∷ Edit (codes "R") (ref (codes "FILE") []) ∷ Replace (R (1 ∷ [])) (R (4 ∷ []) ∷ []) ∷ Replace (R (4 ∷ [])) (R (1 ∷ []) ∷ []) ∷ Remove (R (7 ∷ [])) COMMA ∷ []) refl refl refl refl refl

statement_inserted_with_notes : IsAnswer (codes "# A generator: a statement is inserted, and notes tell where its placeholder and an old name are in the new tree.\n# The deleted literal has a note too; its line of the answer has no path.\ntree A (STMT_LIST L_CURLY\"{\" (LET_STMT LET_KW\"let\" WHITESPACE\" \" (NAME IDENT\"a\") SEMICOLON\";\") INT_NUMBER\"7\" R_CURLY\"}\")\nedit R A\ntree NEW (LET_STMT LET_KW\"let\" WHITESPACE\" \" (NAME IDENT\"name\") SEMICOLON\";\")\ntree SPACE (SOURCE_FILE WHITESPACE\" \")\nnote placeholder NEW/2\nnote old R/1/2\nnote gone R/2\ninsert after R/1 SPACE/0 NEW\ndelete R/2\nfinish\n") 0 (codes "text \"{let a; let name;}\"\nchanged 2 3\nnote placeholder 3/2\nnote old 1/2\nnote gone\n")
unfolding fields words digits
statement_inserted_with_notes = edited _ _ (Blank ∷ Blank ∷ Tree (codes "A") (node STMT_LIST (token L_CURLY (codes "{") ∷ node LET_STMT (token LET_KW (codes "let") ∷ token WHITESPACE (codes " ") ∷ node NAME (token IDENT (codes "a") ∷ []) ∷ token SEMICOLON (codes ";") ∷ []) ∷ token INT_NUMBER (codes "7") ∷ token R_CURLY (codes "}") ∷ [])) ∷ Edit (codes "R") (A []) ∷ Tree (codes "NEW") (node LET_STMT (token LET_KW (codes "let") ∷ token WHITESPACE (codes " ") ∷ node NAME (token IDENT (codes "name") ∷ []) ∷ token SEMICOLON (codes ";") ∷ [])) ∷ Tree (codes "SPACE") (node SOURCE_FILE (token WHITESPACE (codes " ") ∷ [])) ∷ Note (codes "placeholder") (ref (codes "NEW") (2 ∷ [])) ∷ Note (codes "old") (R (1 ∷ 2 ∷ [])) ∷ Note (codes "gone") (R (2 ∷ [])) ∷ Insert (After (R (1 ∷ []))) (ref (codes "SPACE") (0 ∷ []) ∷ ref (codes "NEW") [] ∷ []) ∷ Delete (R (2 ∷ [])) ∷ []) refl refl refl refl refl

list_element_removed : IsAnswer (codes "# An element of a separated list is removed with the separator after it and one whitespace token.\ntree A (GENERIC_ARG_LIST L_ANGLE\"<\" (LIFETIME LIFETIME_IDENT\"'a\") COMMA\",\" WHITESPACE\" \" (NAME_REF IDENT\"T\") R_ANGLE\">\")\nedit R A\nremove R/1 COMMA\nfinish\n") 0 (codes "text \"<T>\"\nchanged\n")
unfolding fields words digits
list_element_removed = edited _ _ (Blank ∷ Tree (codes "A") (node GENERIC_ARG_LIST (token L_ANGLE (codes "<") ∷ node LIFETIME (token LIFETIME_IDENT (codes "'a") ∷ []) ∷ token COMMA (codes ",") ∷ token WHITESPACE (codes " ") ∷ node NAME_REF (token IDENT (codes "T") ∷ []) ∷ token R_ANGLE (codes ">") ∷ [])) ∷ Edit (codes "R") (A []) ∷ Remove (R (1 ∷ [])) COMMA ∷ []) refl refl refl refl refl

changes_in_an_order : IsAnswer (codes "# Changes are carried out one at a time, in the order that the script gives. They are numbered from 0 as they are\n# recorded: 0 and 1 are the inserts, 2 is the deletion. An insert goes to the front of its gap when its turn comes, so\n# 1 must come before 0. The answer is the same for every allowed order, and without the line.\ntree A (ARG_LIST L_PAREN\"(\" (LITERAL INT_NUMBER\"1\") COMMA\",\" WHITESPACE\" \" (LITERAL INT_NUMBER\"2\") R_PAREN\")\")\nedit R A\n" ++ text_X ++ text_Y ++ codes "insert after R/0 X/0\ninsert after R/0 Y/0\ndelete R/4\norder 2 1 0\nfinish\n") 0 (codes "text \"(xy1, )\"\nchanged 1 2\n")
unfolding fields words digits
changes_in_an_order = edited_by _ _ (Blank ∷ Blank ∷ Blank ∷ tree_A ∷ Edit (codes "R") (A []) ∷ tree_X ∷ tree_Y ∷ Insert (After (R (0 ∷ []))) (X (0 ∷ []) ∷ []) ∷ Insert (After (R (0 ∷ []))) (Y (0 ∷ []) ∷ []) ∷ Delete (R (4 ∷ [])) ∷ Order (2 ∷ 1 ∷ 0 ∷ []) ∷ []) (2 ∷ 1 ∷ 0 ∷ []) refl refl refl refl refl refl refl

range_over_a_replaced_element : IsAnswer (codes "# The range R/1 to R/4 has the literal R/1 among its targets, so two changes replace R/1: `finish` refuses them.\ntree A (ARG_LIST L_PAREN\"(\" (LITERAL INT_NUMBER\"1\") COMMA\",\" WHITESPACE\" \" (LITERAL INT_NUMBER\"2\") R_PAREN\")\")\nedit R A\n" ++ text_U ++ codes "replace R/1 U/0\nrange R/1 R/4\nfinish\n") 1 (codes "refused Intersecting 0 1\n")
unfolding fields words digits
range_over_a_replaced_element = not_carried_out _ _ (Blank ∷ tree_A ∷ Edit (codes "R") (A []) ∷ tree_U ∷ Replace (R (1 ∷ [])) (U (0 ∷ []) ∷ []) ∷ Range (R (1 ∷ [])) (R (4 ∷ [])) [] ∷ []) (refusal.Edit (Intersecting 0 1)) refl refl refl refl

rename_in_a_wrapped_expression : IsAnswer (codes "# A rename in an expression that the same edit puts into a block. The tree W is the block with a copy of the expression,\n# and `map` says so: the two replacements inside R/0 then move into the copy.\ntree FILE (EXPR_STMT (BIN_EXPR (NAME_REF IDENT\"a\") PLUS\"+\" (NAME_REF IDENT\"a\")) SEMICOLON\";\")\nedit R FILE\ntree NEW (NAME_REF IDENT\"total\")\ntree W (BLOCK_EXPR L_CURLY\"{\" (BIN_EXPR (NAME_REF IDENT\"a\") PLUS\"+\" (NAME_REF IDENT\"a\")) R_CURLY\"}\")\nmap W R/0 W/1\nreplace R/0/0 NEW\nreplace R/0/2 NEW\nreplace R/0 W\nfinish\n") 0 (codes "text \"{total+total};\"\nchanged 0\n")
unfolding fields words digits
rename_in_a_wrapped_expression = edited_at _ _ (Blank ∷ Blank ∷ Tree (codes "FILE") (node EXPR_STMT (node BIN_EXPR (node NAME_REF (token IDENT (codes "a") ∷ []) ∷ token PLUS (codes "+") ∷ node NAME_REF (token IDENT (codes "a") ∷ []) ∷ []) ∷ token SEMICOLON (codes ";") ∷ [])) ∷ Edit (codes "R") (ref (codes "FILE") []) ∷ Tree (codes "NEW") (node NAME_REF (token IDENT (codes "total") ∷ [])) ∷ Tree (codes "W") (node BLOCK_EXPR (token L_CURLY (codes "{") ∷ node BIN_EXPR (node NAME_REF (token IDENT (codes "a") ∷ []) ∷ token PLUS (codes "+") ∷ node NAME_REF (token IDENT (codes "a") ∷ []) ∷ []) ∷ token R_CURLY (codes "}") ∷ [])) ∷ Map (ref (codes "W") []) (R (0 ∷ [])) (ref (codes "W") (1 ∷ [])) ∷ Replace (R (0 ∷ 0 ∷ [])) (ref (codes "NEW") [] ∷ []) ∷ Replace (R (0 ∷ 2 ∷ [])) (ref (codes "NEW") [] ∷ []) ∷ Replace (R (0 ∷ [])) (ref (codes "W") [] ∷ []) ∷ []) (placed 2 (1 ∷ []) no_places) ((((address 1 (0 ∷ []), refl, refl), refl), λ e _. cc), ((((address 1 (0 ∷ []), refl, refl), refl), λ e _. cc), (tt, tt))) refl refl refl refl refl
