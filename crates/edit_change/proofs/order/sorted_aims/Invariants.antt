use Rattle.std.proofs.Common.{◌≡◌, ◌++◌, take}
use Rattle.std.specs.List.{enumerate_from}
use Rattle.edit_change.specs.NewTree.{change_aims}
use Rattle.edit_change.specs.inner.Aimed.{aims_of}
use Rattle.edit_change.proofs.order.sorted_aims.Given as goal

abbrev pub invariant-loop-number : goal.invariant-loop-number
invariant-loop-number l = aims_of l.aims.items ≡ change_aims (enumerate_from 0 (take l.number (l.own ++ l.other)))
