-- The trees of the worked examples of an editor, and what recorded changes come to.
use Rattle.std.specs.Prelude.{ℕ, List, [], ◌∷◌, codes, flat_map, replicate}
use Rattle.cst_core.specs.Path.{Path}
use Rattle.cst_core.specs.Tree.{SyntaxTree, text}
use Rattle.cst_core.specs.SyntaxElement.{syntax_of}
use Rattle.cst_core.specs.Kinds.{ATTR, BLOCK_EXPR, COMMENT, FN, FN_KW, IDENT, ITEM_LIST, L_BRACK, L_CURLY, L_PAREN, NAME, PARAM_LIST, POUND, R_BRACK, R_CURLY, R_PAREN, SOURCE_FILE, STMT_LIST, USE, USE_KW, WHITESPACE}
use Rattle.cst_core.specs.declared.element.SyntaxElement.{SyntaxElement}
use Rattle.edit_map.proofs.RowTrees.{token, branch, tree_U, tree_V, tree_X, tree_Y, tree_S1}
use Rattle.edit_map.proofs.Rows as edited
use Rattle.edit_map.proofs.Rows.{element_of_tree}
use Rattle.edit_plan.specs.NewTree.{new_tree, is_free}
use Rattle.edit_change.specs.Results.{changed}
use Rattle.edit_change.specs.declared.change.Change.{Change}
use Rattle.whitespace.specs.Level.{newline, space}

-- ---- trees
abbrev pub tree_J : SyntaxTree
tree_J = branch ITEM_LIST (token L_CURLY (codes "{") ∷ token R_CURLY (codes "}") ∷ [])

abbrev pub tree_G : SyntaxTree
tree_G = branch USE (token USE_KW (codes "use") ∷ [])

abbrev attribute : SyntaxTree
attribute = branch ATTR (token POUND (codes "#") ∷ token L_BRACK (codes "[") ∷ token IDENT (codes "a") ∷ token R_BRACK (codes "]") ∷ [])

abbrev pub tree_H : SyntaxTree
tree_H = branch FN (attribute ∷ token WHITESPACE (codes "\n") ∷ token COMMENT (codes "// c") ∷ token WHITESPACE (codes "\n") ∷ token FN_KW (codes "fn") ∷ token WHITESPACE (codes " ") ∷ branch NAME (token IDENT (codes "f") ∷ []) ∷ branch PARAM_LIST (token L_PAREN (codes "(") ∷ token R_PAREN (codes ")") ∷ []) ∷ token WHITESPACE (codes " ") ∷ branch BLOCK_EXPR (branch STMT_LIST (token L_CURLY (codes "{") ∷ token R_CURLY (codes "}") ∷ []) ∷ []) ∷ [])

abbrev pub tree_hash : SyntaxTree
tree_hash = branch ATTR (token POUND (codes "#") ∷ [])

abbrev pub tree_hash_fn : SyntaxTree
tree_hash_fn = branch SOURCE_FILE (tree_hash ∷ branch FN (token FN_KW (codes "fn") ∷ []) ∷ [])

-- the list J after a new line with 1,020 spaces
abbrev pub tree_deep : SyntaxTree
tree_deep = branch SOURCE_FILE (token WHITESPACE (newline ∷ replicate 1020 space) ∷ tree_J ∷ [])

-- ---- elements: the edited tree has the number 1
abbrev pub in_tree : SyntaxTree → Path → SyntaxElement
in_tree t p = syntax_of (element_of_tree 1 t p)

abbrev pub R : Path → SyntaxElement
R p = syntax_of (edited.R p)

abbrev pub U : SyntaxElement
U = syntax_of (element_of_tree 4 tree_U (0 ∷ []))

abbrev pub V : SyntaxElement
V = syntax_of (element_of_tree 6 tree_V [])

abbrev pub X : SyntaxElement
X = syntax_of (element_of_tree 2 tree_X (0 ∷ []))

abbrev pub Y : SyntaxElement
Y = syntax_of (element_of_tree 3 tree_Y (0 ∷ []))

abbrev pub A3 : SyntaxElement
A3 = syntax_of edited.A3

abbrev pub S1 : SyntaxElement
S1 = syntax_of (element_of_tree 2 tree_S1 [])

abbrev pub G : SyntaxElement
G = syntax_of (element_of_tree 2 tree_G [])

abbrev pub hash : SyntaxElement
hash = syntax_of (element_of_tree 2 tree_hash [])

-- ---- the new text and the changed paths, where no change is nested
abbrev pub outcome : List Change → SyntaxTree → List ℕ × List Path
outcome cs t =
    let new = new_tree cs (λ _. []) (element_of_tree 1 t []) in
    (flat_map text new, flat_map (changed (is_free cs)) new)
