use Rattle.std.proofs.Common.{◌≡◌, [], drop}
use Rattle.edit_change.specs.Rewriting.{is_replaced}
use Rattle.edit_change.specs.inner.Aimed.{aims_of}
use Rattle.one_pass.proofs.rewriting.root_replacement.Given as goal

abbrev pub invariant-loop-aim : goal.invariant-loop-aim
invariant-loop-aim l = is_replaced (aims_of (drop l.aim-index l.aims)) [] ≡ is_replaced (aims_of l.aims) []
