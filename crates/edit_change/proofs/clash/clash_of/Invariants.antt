use Rattle.std.proofs.Common.{◌≡◌, ◌≤◌, ◌<◌, ◌-◌, ◌++◌, ℕ, true, false, List}
use Rattle.edit_change.specs.Nesting.{clashes}
use Rattle.edit_change.specs.inner.Aimed.{aims_of}
use Rattle.edit_change.specs.inner.Clash.{ClashesBelow}
use Rattle.edit_change.specs.inner.DocumentOrder.{AreSorted}
use Rattle.edit_change.specs.declared.change.Change.{Change}
use Rattle.edit_change.proofs.Bisected.{Halved}
use Rattle.edit_change.proofs.clash.clash_of.Given as goal

abbrev pub invariant-loop-first : goal.invariant-loop-first
invariant-loop-first l = (i : ℕ) → i < l.first → clashes (l.own ++ l.other) i l.second ≡ false

abbrev pub invariant-loop-high : goal.invariant-loop-high
invariant-loop-high l = record {
  rises : l.second ≤ l.high;
  within : l.high ≤ l.count;
  halved : (cs : List Change) → AreSorted cs (aims_of l.aims) → ClashesBelow cs l.count true → Halved cs l.second l.high;
}

abbrev pub decreases-loop-high : goal.decreases-loop-high
decreases-loop-high l = l.high - l.second
