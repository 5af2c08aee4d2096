use Rattle.std.proofs.Common.{◌≡◌, ◌≤◌, ◌+◌, ◌*◌, drop, option_map}
use Rattle.std.specs.Option.{option_or}
use Rattle.cst_core.specs.Green.{branch_tree}
use Rattle.cst_core.specs.GreenElement.{element_trees}
use Rattle.cst_core.specs.Tree.{forest}
use Rattle.green_tree.specs.inner.TreeSize.{size, forest_size}
use Rattle.tree_text.specs.TreeText.{unnamed_in}
use Rattle.tree_text.specs.inner.UnnamedKinds.{unnamed_among}
use Rattle.tree_text.proofs.write.+first_unnamed.Given as goal

abbrev pub decreases-first_unnamed : goal.decreases-first_unnamed
decreases-first_unnamed l = 2 * size (branch_tree l.node.now)

abbrev pub decreases-first_among : goal.decreases-first_among
decreases-first_among l = 2 * forest_size (forest (element_trees l.elements.now)) + 1

abbrev pub invariant-first_unnamed-loop-kind : goal.invariant-first_unnamed-loop-kind
invariant-first_unnamed-loop-kind l = record {
  whole : option_or (unnamed_in l.names (branch_tree l.current)) (option_map (λ k. k.0) l.later) ≡ unnamed_in l.names (branch_tree l.fn.node);
  within : size (branch_tree l.current) ≤ size (branch_tree l.fn.node);
}

abbrev pub decreases-first_unnamed-loop-kind : goal.decreases-first_unnamed-loop-kind
decreases-first_unnamed-loop-kind l = size (branch_tree l.current)

abbrev pub invariant-first_among-loop-element : goal.invariant-first_among-loop-element
invariant-first_among-loop-element l =
    unnamed_among l.names (element_trees (drop l.element-index l.elements)) ≡ unnamed_among l.names (element_trees l.elements)
