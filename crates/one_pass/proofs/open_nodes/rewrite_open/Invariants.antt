use Rattle.std.proofs.Common.{◌≡◌, ℕ, ◌+◌, ◌*◌, ◌++◌, List, suc}
use Rattle.green_tree.specs.Count.{counted}
use Rattle.one_pass.specs.inner.Marked.{MarkTree}
use Rattle.one_pass.specs.inner.Pass.{AreMarkedIn}
use Rattle.one_pass.specs.inner.OpenNodes.{InOrder, to_build, to_do, whole, wholes, path_to, found_above, found_with, built_above}
use Rattle.one_pass.proofs.OpenPath.{work_above, AreWaiting}
use Rattle.one_pass.proofs.open_nodes.rewrite_open.Given as goal

abbrev pub decreases-nodes : goal.decreases-nodes
decreases-nodes l = 2 * to_do l.top + 1 + work_above l.above.items

abbrev pub invariant-nodes : goal.invariant-nodes
invariant-nodes l = record {
  path : l.walk.path.items ≡ path_to l.fn.walk.path.items l.above.items;
  order : InOrder l.top;
  waiting : AreWaiting l.above.items;
  count : (further : ℕ) → counted l.walk.builds (to_build l.top + (1 + built_above l.above.items) + further) ≡ counted l.fn.walk.builds (suc (to_build l.fn.first) + further);
  trees : wholes l.given l.above.items (whole l.given l.top) ≡ whole l.given l.fn.first;
  marks : (trees : ℕ → List MarkTree) → AreMarkedIn l.given trees → found_with trees l.walk l.walk.path.items l.top ++ found_above trees l.fn.walk.path.items l.above.items ≡ found_with trees l.fn.walk l.fn.walk.path.items l.fn.first;
}
