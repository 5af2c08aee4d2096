-- How many elements a tree has.
--     size, forest_size           how many elements a tree has; how many trees side by side have
--     branch_size                 how many a node has
use Rattle.std.specs.Prelude.{ℕ, ◌+◌}
use Rattle.green_tree.specs.Tree.{Forest, SyntaxTree, Token, Node, end, more, forest}
use Rattle.green_tree.specs.Green.{Branch}

abbrev mutual
  pub size : SyntaxTree → ℕ
  size (Token k s) = 1
  size (Node k f) = forest_size f + 1

  pub forest_size : Forest ℕ → ℕ
  forest_size end = 0
  forest_size (more t f) = size t + forest_size f

abbrev pub branch_size : Branch → ℕ
branch_size b = forest_size (forest b.children) + 1
