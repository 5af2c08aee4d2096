-- Lists of trees that have the same shapes.
--     SameShapes                  as many trees, and each of the same shape as the one in its slot
use Rattle.std.specs.Prelude.{◌≡◌, List}
use Rattle.green_tree.specs.Tree.{SyntaxTree, forest, forest_without_texts}

abbrev pub SameShapes : List SyntaxTree → List SyntaxTree → Type 0
SameShapes ts us = forest_without_texts (forest ts) ≡ forest_without_texts (forest us)
