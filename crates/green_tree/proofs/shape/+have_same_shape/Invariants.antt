use Rattle.std.proofs.Common.{drop, ◌+◌, ◌*◌, ◌≤◌}
use Rattle.std.specs.Prelude.{◌↔◌}
use Rattle.green_tree.specs.Tree.{SameShape, forest}
use Rattle.green_tree.specs.Green.{branch_tree}
use Rattle.green_tree.specs.GreenElement.{element_trees}
use Rattle.green_tree.specs.inner.SameShapes.{SameShapes}
use Rattle.green_tree.specs.inner.TreeSize.{forest_size, branch_size}
use Rattle.green_tree.proofs.shape.+have_same_shape.Given as goal

abbrev pub decreases-have_same_shape : goal.decreases-have_same_shape
decreases-have_same_shape l = 2 * branch_size l.a.now

abbrev pub decreases-have_same_shapes : goal.decreases-have_same_shapes
decreases-have_same_shapes l = 2 * forest_size (forest (element_trees l.left.now)) + 1

abbrev pub decreases-have_same_shape-loop-x : goal.decreases-have_same_shape-loop-x
decreases-have_same_shape-loop-x l = branch_size l.x

pub record SoFar (x y a b : Rattle.green_tree.specs.Green.Branch) : Type 0 where
  pub same : SameShape (branch_tree x) (branch_tree y) ↔ SameShape (branch_tree a) (branch_tree b)
  pub size : branch_size x ≤ branch_size a

abbrev pub invariant-have_same_shape-loop-x : goal.invariant-have_same_shape-loop-x
invariant-have_same_shape-loop-x l = SoFar l.x l.y l.fn.a l.fn.b

abbrev pub invariant-have_same_shapes-loop-i : goal.invariant-have_same_shapes-loop-i
invariant-have_same_shapes-loop-i l = SameShapes (element_trees (drop l.i l.left)) (element_trees (drop l.i l.right)) ↔ SameShapes (element_trees l.left) (element_trees l.right)
