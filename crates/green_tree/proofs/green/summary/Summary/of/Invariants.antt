use Rattle.std.proofs.Common.{◌≡◌, ◌≤◌, ◌+◌, length, drop, min}
use Rattle.std.specs.Prelude.{◌||◌}
use Rattle.green_tree.specs.Green.{texts, capped_length}
use Rattle.green_tree.specs.GreenElement.{element_trees}
use Rattle.green_tree.specs.inner.HasToken.{have_token}
use Rattle.green_tree.proofs.green.summary.Summary.of.Given as goal

abbrev pub invariant-loop-child : goal.invariant-loop-child
invariant-loop-child l = record {
  small : l.summary.length ≤ 4294967296;
  length : min (l.summary.length + length (texts (element_trees (drop l.child-index l.children)))) 4294967296 ≡ capped_length (texts (element_trees l.children));
  token : (l.summary.has_token || have_token (element_trees (drop l.child-index l.children))) ≡ have_token (element_trees l.children);
}
