use Rattle.std.proofs.Common.{◌≡◌, ◌-◌, ℕ, length}
use Rattle.std.specs.Prelude.{suc, slice_index_or}
use Rattle.edit_steps.proofs.stage.visited.lengthen.Given as goal

abbrev pub invariant-longer : goal.invariant-longer
invariant-longer l = (i : ℕ) → slice_index_or l.list.items i l.rest ≡ slice_index_or l.fn.list.items i l.rest

abbrev pub decreases-longer : goal.decreases-longer
decreases-longer l = suc l.last - length l.list.items
