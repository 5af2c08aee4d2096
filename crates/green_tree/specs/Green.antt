-- What shared trees stand for.
--     Leaf, Branch                  What a contract sees of a shared token: its kind and bytes. Of a shared node: its kind and children.
--     leaf_tree, branch_tree        The tree of a shared token; of a shared node.
--     spliced                       A node with other trees in place of its children from one slot up to another, which is kept.
--     texts                         The texts of several trees, one after another.
--     length_limit, IsTooLong       4,294,967,296; a text has at least that many bytes.
--     capped_length                 The lesser of a text's number of bytes and that limit.
use Rattle.std.specs.Prelude.{ℕ, ◌++◌, ◌≤◌, min, take, drop, List, length}
use Rattle.green_tree.specs.Tree.{SyntaxTree, Token, node, forest, forest_text}

pub record Leaf : Type 0 where
  pub kind : ℕ
  pub text : List ℕ

pub record Branch : Type 0 where
  pub kind : ℕ
  pub children : List SyntaxTree

abbrev pub leaf_tree : Leaf → SyntaxTree
leaf_tree l = Token l.kind l.text

abbrev pub branch_tree : Branch → SyntaxTree
branch_tree b = node b.kind b.children

abbrev pub spliced : Branch → ℕ → ℕ → List SyntaxTree → Branch
spliced b first stop new = record { kind = b.kind; children = take first b.children ++ new ++ drop stop b.children }

abbrev pub texts : List SyntaxTree → List ℕ
texts ts = forest_text (forest ts)

abbrev pub length_limit : ℕ
length_limit = 4294967296

abbrev pub IsTooLong : List ℕ → Type 0
IsTooLong s = length_limit ≤ length s

abbrev pub capped_length : List ℕ → ℕ
capped_length s = min (length s) length_limit
