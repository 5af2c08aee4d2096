-- The bytes before this one.
use Rattle.std.proofs.Common.{◌≡◌, ◌==◌, ◌||◌, true, not, take}
use Rattle.std.specs.List.{list_all}
use Rattle.tree_text.proofs.runs.plain_length.Given as goal

abbrev pub invariant-loop-index : goal.invariant-loop-index
invariant-loop-index l = list_all (λ b. not (b == 34 || b == 92)) (take l.index l.text) ≡ true
