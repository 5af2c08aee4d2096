use Rattle.std.proofs.Common.{◌≡◌, ℕ, List, drop, length, None}
use Rattle.std.specs.Prelude.{sum_by}
use Rattle.cst_core.specs.Path.{Path}
use Rattle.cst_core.specs.Element.{Address}
use Rattle.one_pass.specs.inner.OwnerTables.{AreDependents, IsGiven}
use Rattle.one_pass.specs.inner.Sought.{IsTableOf}
use Rattle.edit_change.specs.TouchedNodes.{touched_in, Raises}
use Rattle.one_pass.specs.inner.GivenTables.{ArePayloadsBuilt}
use Rattle.one_pass.proofs.EnteredBack.{EnteredFrom}
use Rattle.one_pass.proofs.MarksEntered.{AreEntered}
use Rattle.one_pass.proofs.given_table.given_table.Given as goal

abbrev pub invariant-loop-place : goal.invariant-loop-place
invariant-loop-place l = record {
  long : length l.given.entries.items ≡ length l.changes;
  top : l.given.top ≡ None;
  count : (places : ℕ → Path) → AreDependents l.changes places l.dependents → Raises (ArePayloadsBuilt l.changes places) (sum_by (touched_in l.changes places) (drop l.place l.order)) l.fn.builds l.builds;
  filled : (places : ℕ → Path) → AreDependents l.changes places l.dependents → EnteredFrom (IsGiven l.changes places l.given) l.order l.place;
  marks : (places : ℕ → Path) (rs : List Address) → AreDependents l.changes places l.dependents → IsTableOf rs l.registered → AreEntered rs l.changes places l.order l.place l.given;
}
