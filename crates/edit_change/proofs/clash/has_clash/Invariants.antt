use Rattle.std.proofs.Common.{List, drop}
use Rattle.edit_change.specs.inner.Aimed.{aims_of}
use Rattle.edit_change.specs.inner.DocumentOrder.{AreSorted}
use Rattle.edit_change.specs.declared.change.Change.{Change}
use Rattle.edit_change.proofs.Scanning.{Scanned}
use Rattle.edit_change.proofs.clash.has_clash.Given as goal

abbrev pub invariant-loop-aim : goal.invariant-loop-aim
invariant-loop-aim l =
    (cs : List Change) → AreSorted cs (aims_of l.aims) → Scanned cs l.below (aims_of l.open.items) (aims_of (drop l.aim-index l.aims))
