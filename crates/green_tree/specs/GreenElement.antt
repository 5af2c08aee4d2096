-- What shared elements stand for.
--     element_tree, element_trees   The tree of a shared element; of several.
use Rattle.std.specs.Prelude.{List, map}
use Rattle.green_tree.specs.Tree.{SyntaxTree}
use Rattle.green_tree.specs.Green.{branch_tree, leaf_tree}
use Rattle.green_tree.specs.declared.green.GreenElement.{GreenElement}
use Rattle.green_tree.specs.declared.green.GreenElement.TheVariants.{Node, Token}

abbrev pub element_tree : GreenElement → SyntaxTree
element_tree (Node b) = branch_tree b
element_tree (Token l) = leaf_tree l

abbrev pub element_trees : List GreenElement → List SyntaxTree
element_trees es = map element_tree es
