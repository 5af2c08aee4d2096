-- Each child has a smaller size than its parent.
--     most_le                     the greatest size of some elements is at most that of all of them, and one
use Rattle.std.specs.Prelude.{◌+◌, ◌≤◌, List, [], ◌∷◌}
use Rattle.std.proofs.Common.{arith}
use denote.Param.Weighed.{most}
use Rattle.green_tree.specs.Tree.{forest}
use Rattle.green_tree.specs.inner.TreeSize.{size, forest_size}
use Rattle.green_tree.specs.GreenElement.{element_trees, element_tree}
use Rattle.green_tree.specs.declared.green.GreenElement.{GreenElement}
use Rattle.green_tree.specs.declared.green.GreenElement.TheVariants.{Node, Token}
use Rattle.green_tree.specs.declared.green.GreenNode.TheDeep.{deep-GreenElement}

deep_le : (e : GreenElement) → deep-GreenElement e ≤ size (element_tree e) + 1
deep_le (Node b) = omega arith
deep_le (Token l) = omega arith

pub most_le : (es : List GreenElement) → most deep-GreenElement es ≤ forest_size (forest (element_trees es)) + 1
most_le [] = omega arith
most_le (e ∷ es) = omega (arith, deep_le e, most_le es)
