-- Trees and lines of worked scripts, and how most of the scripts begin.
--     node, token                      a tree of a kind
--     literal, arguments, one_token    `1` and the like, `(1, 2)`, a tree for a new token
--     ref, R and the like              a reference
--     tree_A and the like              lines that make a tree
--     text_A and the like              their texts
--     on_arguments, from_arguments     a script that edits `(1, 2)`, and its lines
use Rattle.std.specs.Prelude.{ℕ, List, [], ◌∷◌, ◌++◌, codes}
use Rattle.cst_core.specs.Path.{Path}
use Rattle.cst_core.specs.Tree.{SyntaxTree, Token, Node, forest}
use Rattle.cst_core.specs.SyntaxKind.{SyntaxKind}
use Rattle.cst_core.specs.Kinds.{ARG_LIST, L_PAREN, R_PAREN, LITERAL, INT_NUMBER, COMMA, WHITESPACE, SOURCE_FILE, TUPLE_EXPR, UNDERSCORE, IDENT}
use Rattle.script_lines.specs.ScriptLine.{Ref, ScriptLine, Tree, Edit}

abbrev pub node : SyntaxKind → List SyntaxTree → SyntaxTree
node kind ts = Node kind.0 (forest ts)

abbrev pub token : SyntaxKind → List ℕ → SyntaxTree
token kind text = Token kind.0 text

abbrev pub literal : List ℕ → SyntaxTree
literal text = node LITERAL (token INT_NUMBER text ∷ [])

-- `(1, 2)`
abbrev pub arguments : SyntaxTree
arguments = node ARG_LIST (token L_PAREN (codes "(") ∷ literal (codes "1") ∷ token COMMA (codes ",") ∷ token WHITESPACE (codes " ") ∷ literal (codes "2") ∷ token R_PAREN (codes ")") ∷ [])

abbrev pub one_token : SyntaxKind → List ℕ → SyntaxTree
one_token kind text = node SOURCE_FILE (token kind text ∷ [])

-- ---- references
abbrev pub ref : List ℕ → Path → Ref
ref name path = record { name = name; path = path }

abbrev pub R : Path → Ref
R path = ref (codes "R") path

abbrev pub A : Path → Ref
A path = ref (codes "A") path

abbrev pub N : Path → Ref
N path = ref (codes "N") path

abbrev pub U : Path → Ref
U path = ref (codes "U") path

abbrev pub V : Path → Ref
V path = ref (codes "V") path

abbrev pub X : Path → Ref
X path = ref (codes "X") path

abbrev pub Y : Path → Ref
Y path = ref (codes "Y") path

-- ---- lines
abbrev pub tree_A : ScriptLine
tree_A = Tree (codes "A") arguments

abbrev pub tree_N : ScriptLine
tree_N = Tree (codes "N") (node TUPLE_EXPR (token L_PAREN (codes "(") ∷ literal (codes "7") ∷ token R_PAREN (codes ")") ∷ []))

abbrev pub tree_U : ScriptLine
tree_U = Tree (codes "U") (one_token UNDERSCORE (codes "_"))

abbrev pub tree_V : ScriptLine
tree_V = Tree (codes "V") (node TUPLE_EXPR (token L_PAREN (codes "(") ∷ token R_PAREN (codes ")") ∷ []))

abbrev pub tree_X : ScriptLine
tree_X = Tree (codes "X") (one_token IDENT (codes "x"))

abbrev pub tree_Y : ScriptLine
tree_Y = Tree (codes "Y") (one_token IDENT (codes "y"))

abbrev pub text_A : List ℕ
text_A = codes "tree A (ARG_LIST L_PAREN\"(\" (LITERAL INT_NUMBER\"1\") COMMA\",\" WHITESPACE\" \" (LITERAL INT_NUMBER\"2\") R_PAREN\")\")\n"

abbrev pub text_N : List ℕ
text_N = codes "tree N (TUPLE_EXPR L_PAREN\"(\" (LITERAL INT_NUMBER\"7\") R_PAREN\")\")\n"

abbrev pub text_U : List ℕ
text_U = codes "tree U (SOURCE_FILE UNDERSCORE\"_\")\n"

abbrev pub text_V : List ℕ
text_V = codes "tree V (TUPLE_EXPR L_PAREN\"(\" R_PAREN\")\")\n"

abbrev pub text_X : List ℕ
text_X = codes "tree X (SOURCE_FILE IDENT\"x\")\n"

abbrev pub text_Y : List ℕ
text_Y = codes "tree Y (SOURCE_FILE IDENT\"y\")\n"

-- ---- scripts
abbrev pub on_arguments : List ℕ → List ℕ
on_arguments more = text_A ++ codes "edit R A\n" ++ more

abbrev pub from_arguments : List ScriptLine → List ScriptLine
from_arguments more = tree_A ∷ Edit (codes "R") (A []) ∷ more
