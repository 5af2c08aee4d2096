-- Why an order is refused.
--     OrderRefuses                  Why an order is not allowed: the first clause of `IsAllowed` that does not hold, `ListsEachOnce` first, each
--                                   tested over the whole order.
--
-- The refusals of an order are, in this order, `NotEachOnce`, `OwnerTooEarly`, `GapOutOfOrder` and `TokenTooEarly`.
use Rattle.std.specs.Prelude.{◌≡◌, ℕ, false, List, IsTrue}
use Rattle.edit_change.specs.declared.change.Change.{Change}
use Rattle.edit_steps.specs.Schedule.{ListsEachOnce, respects, owned_first, gap_first, token_first}
use Rattle.edit_steps.specs.declared.order.order_error.OrderError.{OrderError}
use Rattle.edit_steps.specs.declared.order.order_error.OrderError.TheVariants.{NotEachOnce, OwnerTooEarly, GapOutOfOrder, TokenTooEarly, Memory}

-- Each clause is asked of the whole order, and only where all clauses before it hold.
abbrev pub OrderRefuses : List Change → List ℕ → OrderError → Type 0
OrderRefuses cs order NotEachOnce = ¬ (ListsEachOnce cs order)
OrderRefuses cs order OwnerTooEarly = ListsEachOnce cs order × (respects (owned_first cs) cs order ≡ false)
OrderRefuses cs order GapOutOfOrder = ListsEachOnce cs order × IsTrue (respects (owned_first cs) cs order) × (respects gap_first cs order ≡ false)
OrderRefuses cs order TokenTooEarly =
    ListsEachOnce cs order × IsTrue (respects (owned_first cs) cs order) × IsTrue (respects gap_first cs order) × (respects token_first cs order ≡ false)
OrderRefuses cs order Memory = Unit {0}
