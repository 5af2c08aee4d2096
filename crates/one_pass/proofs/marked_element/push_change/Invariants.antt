use Rattle.std.proofs.Common.{◌≡◌, ◌++◌, List, drop, length}
use Rattle.green_tree.specs.GreenElement.{element_trees}
use Rattle.one_pass.specs.inner.Marked.{MarkTree, marks_of}
use Rattle.one_pass.specs.inner.Pass.{given_trees, AreMarked}
use Rattle.one_pass.proofs.Marks.{shown}
use Rattle.one_pass.proofs.marked_element.push_change.Given as goal

abbrev pub invariant-loop-one : goal.invariant-loop-one
invariant-loop-one l = record {
  path : l.walk.path.items ≡ l.initial.walk.path.items;
  count : l.walk.builds ≡ l.initial.walk.builds;
  trees : element_trees l.out.items ++ given_trees (drop l.one-index l.one-items) ≡ element_trees l.initial.out.items ++ given_trees l.one-items;
  marks : (ts : List MarkTree) → AreMarked l.given.top l.one-items ts → marks_of l.walk.found.items ++ shown l.initial.walk.path.items (length l.out.items) (drop l.one-index ts) ≡ marks_of l.initial.walk.found.items ++ shown l.initial.walk.path.items (length l.initial.out.items) ts;
}
