-- The trees of the worked examples.
use Rattle.std.specs.Prelude.{List, ℕ, [], ◌∷◌, codes}
use Rattle.cst_core.specs.Tree.{Token, SyntaxTree, node}
use Rattle.cst_core.specs.SyntaxKind.{SyntaxKind}
use Rattle.cst_core.specs.Kinds.{ARG_LIST, ATTR, BIN_EXPR, BLOCK_EXPR, COMMA, EQ, FAT_ARROW, FN, FN_KW, IDENT, IDENT_PAT, INT_NUMBER, LET_KW, LET_STMT, LITERAL, L_CURLY, L_PAREN, MATCH_ARM, NAME, NAME_REF, PARAM_LIST, PLUS, RET_TYPE, R_CURLY, R_PAREN, SEMICOLON, SOURCE_FILE, STMT_LIST, THIN_ARROW, TRUE_KW, TUPLE_EXPR, TUPLE_TYPE, UNDERSCORE, WHITESPACE, WILDCARD_PAT}

abbrev pub token : SyntaxKind → List ℕ → SyntaxTree
token k s = Token k.0 s

abbrev pub branch : SyntaxKind → List SyntaxTree → SyntaxTree
branch k ts = node k.0 ts

abbrev pub tree_L : SyntaxTree
tree_L = branch ARG_LIST (token L_PAREN (codes "(") ∷ branch LITERAL (token INT_NUMBER (codes "1") ∷ []) ∷ token COMMA (codes ",") ∷ token WHITESPACE (codes " ") ∷ branch LITERAL (token INT_NUMBER (codes "2") ∷ []) ∷ token R_PAREN (codes ")") ∷ [])

abbrev pub tree_U : SyntaxTree
tree_U = branch SOURCE_FILE (token UNDERSCORE (codes "_") ∷ [])

abbrev pub tree_X : SyntaxTree
tree_X = branch SOURCE_FILE (token IDENT (codes "x") ∷ [])

abbrev pub tree_Y : SyntaxTree
tree_Y = branch SOURCE_FILE (token IDENT (codes "y") ∷ [])

abbrev pub tree_A3 : SyntaxTree
tree_A3 = branch LITERAL (token INT_NUMBER (codes "3") ∷ [])

abbrev pub tree_V : SyntaxTree
tree_V = branch TUPLE_EXPR (token L_PAREN (codes "(") ∷ token R_PAREN (codes ")") ∷ [])

abbrev pub tree_S1 : SyntaxTree
tree_S1 = branch LET_STMT (token LET_KW (codes "let") ∷ token WHITESPACE (codes " ") ∷ branch IDENT_PAT (branch NAME (token IDENT (codes "first") ∷ []) ∷ []) ∷ token WHITESPACE (codes " ") ∷ token EQ (codes "=") ∷ token WHITESPACE (codes " ") ∷ branch LITERAL (token INT_NUMBER (codes "1") ∷ []) ∷ token SEMICOLON (codes ";") ∷ [])

abbrev pub tree_S2 : SyntaxTree
tree_S2 = branch LET_STMT (token LET_KW (codes "let") ∷ token WHITESPACE (codes " ") ∷ branch IDENT_PAT (branch NAME (token IDENT (codes "second") ∷ []) ∷ []) ∷ token WHITESPACE (codes " ") ∷ token EQ (codes "=") ∷ token WHITESPACE (codes " ") ∷ branch LITERAL (token INT_NUMBER (codes "2") ∷ []) ∷ token SEMICOLON (codes ";") ∷ [])

abbrev pub tree_S3 : SyntaxTree
tree_S3 = branch LET_STMT (token LET_KW (codes "let") ∷ token WHITESPACE (codes " ") ∷ branch IDENT_PAT (branch NAME (token IDENT (codes "third") ∷ []) ∷ []) ∷ token WHITESPACE (codes " ") ∷ token EQ (codes "=") ∷ token WHITESPACE (codes " ") ∷ branch LITERAL (token INT_NUMBER (codes "3") ∷ []) ∷ token SEMICOLON (codes ";") ∷ [])

abbrev pub tree_B : SyntaxTree
tree_B = branch BLOCK_EXPR (branch STMT_LIST (token L_CURLY (codes "{") ∷ token WHITESPACE (codes "\n    ") ∷ tree_S2 ∷ token WHITESPACE (codes "\n") ∷ token R_CURLY (codes "}") ∷ []) ∷ [])

abbrev pub tree_BB : SyntaxTree
tree_BB = branch BLOCK_EXPR (branch STMT_LIST (token L_CURLY (codes "{") ∷ token WHITESPACE (codes "\n    ") ∷ tree_B ∷ token WHITESPACE (codes "\n") ∷ token R_CURLY (codes "}") ∷ []) ∷ [])

abbrev pub tree_BBB : SyntaxTree
tree_BBB = branch BLOCK_EXPR (branch STMT_LIST (token L_CURLY (codes "{") ∷ token WHITESPACE (codes "\n    ") ∷ tree_BB ∷ token WHITESPACE (codes "\n") ∷ token R_CURLY (codes "}") ∷ []) ∷ [])

abbrev pub tree_D : SyntaxTree
tree_D = branch BIN_EXPR (branch LITERAL (token INT_NUMBER (codes "2") ∷ []) ∷ token WHITESPACE (codes " ") ∷ token PLUS (codes "+") ∷ token WHITESPACE (codes " ") ∷ branch LITERAL (token INT_NUMBER (codes "2") ∷ []) ∷ [])

abbrev pub tree_Q : SyntaxTree
tree_Q = branch TUPLE_EXPR (token L_PAREN (codes "(") ∷ tree_D ∷ token COMMA (codes ",") ∷ token WHITESPACE (codes " ") ∷ branch LITERAL (token TRUE_KW (codes "true") ∷ []) ∷ token R_PAREN (codes ")") ∷ [])

abbrev pub tree_M : SyntaxTree
tree_M = branch MATCH_ARM (branch WILDCARD_PAT (token UNDERSCORE (codes "_") ∷ []) ∷ token WHITESPACE (codes " ") ∷ token FAT_ARROW (codes "=>") ∷ token WHITESPACE (codes " ") ∷ tree_Q ∷ token COMMA (codes ",") ∷ [])

abbrev pub tree_NM : SyntaxTree
tree_NM = branch NAME (token IDENT (codes "var_name") ∷ [])

abbrev pub tree_NR : SyntaxTree
tree_NR = branch NAME_REF (token IDENT (codes "var_name") ∷ [])

abbrev pub tree_W : SyntaxTree
tree_W = branch BLOCK_EXPR (branch STMT_LIST (token L_CURLY (codes "{") ∷ token WHITESPACE (codes "\n    ") ∷ branch LET_STMT (token LET_KW (codes "let") ∷ token WHITESPACE (codes " ") ∷ branch IDENT_PAT (tree_NM ∷ []) ∷ token WHITESPACE (codes " ") ∷ token EQ (codes "=") ∷ token WHITESPACE (codes " ") ∷ tree_D ∷ token SEMICOLON (codes ";") ∷ []) ∷ token WHITESPACE (codes "\n    ") ∷ tree_Q ∷ token WHITESPACE (codes "\n") ∷ token R_CURLY (codes "}") ∷ []) ∷ [])

abbrev pub tree_E : SyntaxTree
tree_E = branch ARG_LIST (token L_PAREN (codes "(") ∷ branch ATTR [] ∷ token R_PAREN (codes ")") ∷ [])

abbrev pub tree_F : SyntaxTree
tree_F = branch FN (token FN_KW (codes "fn") ∷ token WHITESPACE (codes " ") ∷ branch NAME (token IDENT (codes "it") ∷ []) ∷ branch PARAM_LIST (token L_PAREN (codes "(") ∷ token R_PAREN (codes ")") ∷ []) ∷ token WHITESPACE (codes " ") ∷ branch RET_TYPE (token THIN_ARROW (codes "->") ∷ token WHITESPACE (codes " ") ∷ branch TUPLE_TYPE (token L_PAREN (codes "(") ∷ token R_PAREN (codes ")") ∷ []) ∷ []) ∷ token WHITESPACE (codes " ") ∷ branch BLOCK_EXPR (branch STMT_LIST (token L_CURLY (codes "{") ∷ token WHITESPACE (codes "\n    ") ∷ tree_V ∷ token WHITESPACE (codes "\n") ∷ token R_CURLY (codes "}") ∷ []) ∷ []) ∷ [])

abbrev pub tree_N7 : SyntaxTree
tree_N7 = branch TUPLE_EXPR (token L_PAREN (codes "(") ∷ branch LITERAL (token INT_NUMBER (codes "7") ∷ []) ∷ token R_PAREN (codes ")") ∷ [])

abbrev pub tree_Z : SyntaxTree
tree_Z = branch ARG_LIST (token L_PAREN (codes "(") ∷ token COMMA (codes ",") ∷ token R_PAREN (codes ")") ∷ [])
