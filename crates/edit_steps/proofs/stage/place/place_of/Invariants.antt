use Rattle.std.proofs.Common.{◌≡◌, take}
use Rattle.std.specs.Prelude.{Some}
use Rattle.green_tree.specs.GreenElement.{element_tree}
use Rattle.edit_steps.specs.inner.Visited.{number_at, held_at, SameHeld, IsVisited}
use Rattle.edit_steps.proofs.Ways.{IsReached}
use Rattle.edit_steps.proofs.stage.place.place_of.Given as goal

abbrev pub invariant-loop-slot : goal.invariant-loop-slot
invariant-loop-slot l = record {
  visited : IsVisited l.visited;
  same : SameHeld l.fn.visited l.visited;
  way : IsReached (held_at l.fn.visited) l.target.parent.now l.target.at l.slot-index l.path.items (element_tree l.current);
  node : number_at l.visited (take l.slot-index l.target.parent.now) ≡ Some l.node;
}
