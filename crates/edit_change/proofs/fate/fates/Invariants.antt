use Rattle.std.proofs.Common.{drop}
use Rattle.edit_change.specs.inner.Aimed.{aims_of}
use Rattle.edit_change.proofs.Sweeping.{Swept}
use Rattle.edit_change.proofs.fate.fates.Given as goal

abbrev pub invariant-loop-aim : goal.invariant-loop-aim
invariant-loop-aim l = Swept l.changes l.fates.items (aims_of l.open.items) (aims_of (drop l.aim-index l.aims))
