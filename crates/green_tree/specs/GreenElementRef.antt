-- What borrowed elements stand for.
--     ref_tree                      The tree of a borrowed element.
use Rattle.green_tree.specs.Tree.{SyntaxTree}
use Rattle.green_tree.specs.Green.{branch_tree, leaf_tree}
use Rattle.green_tree.specs.declared.green.GreenElementRef.{GreenElementRef}
use Rattle.green_tree.specs.declared.green.GreenElementRef.TheVariants.{Node, Token}

abbrev pub ref_tree : GreenElementRef → SyntaxTree
ref_tree (Node b) = branch_tree b.now
ref_tree (Token l) = leaf_tree l.now
