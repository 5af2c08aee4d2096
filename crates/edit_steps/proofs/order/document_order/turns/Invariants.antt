use Rattle.std.proofs.Common.{◌≡◌, map, take}
use Rattle.std.specs.Prelude.{not, filter}
use Rattle.std.specs.List.{enumerate_from}
use Rattle.edit_change.specs.Nesting.{is_dropped}
use Rattle.edit_steps.specs.inner.Turns.{turn_in, turn_of}
use Rattle.edit_steps.proofs.order.document_order.turns.Given as goal

abbrev pub invariant-loop-number : goal.invariant-loop-number
invariant-loop-number l =
    map turn_in l.turns.items ≡ map turn_of (filter (λ c. not (is_dropped l.changes c.1)) (enumerate_from 0 (take l.number l.changes)))
