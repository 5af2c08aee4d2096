use Rattle.std.proofs.Common.{◌≡◌, map, take, Some}
use Rattle.green_tree.specs.Path.{above}
use Rattle.green_tree.specs.Tree.{at}
use Rattle.green_tree.specs.Green.{branch_tree}
use Rattle.cst_core.specs.Element.{element_at}
use Rattle.cst_core.proofs.location.Location.nodes_from_root.Given as goal

abbrev pub invariant-loop-depth : goal.invariant-loop-depth
invariant-loop-depth l = record {
  there : at l.self.root (take l.depth l.path) ≡ Some (branch_tree l.green);
  listed : l.all.items ≡ map (element_at l.self) (above (take l.depth l.path));
}
