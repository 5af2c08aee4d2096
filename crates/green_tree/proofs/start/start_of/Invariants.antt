use Rattle.std.proofs.Common.{◌≡◌, ◌<◌, ◌+◌, drop}
use Rattle.std.specs.Prelude.{IsSome}
use Rattle.green_tree.specs.Tree.{at, text_length}
use Rattle.green_tree.specs.Order.{start}
use Rattle.green_tree.specs.Green.{branch_tree}
use Rattle.green_tree.proofs.start.start_of.Given as goal

abbrev pub invariant-loop-slot : goal.invariant-loop-slot
invariant-loop-slot l = record {
  there : IsSome (at (branch_tree l.node) (drop l.slot-index l.path));
  rest : l.total + start (branch_tree l.node) (drop l.slot-index l.path) ≡ start (branch_tree l.root) l.path;
  fits : l.total + text_length (branch_tree l.node) < 4294967296;
}
