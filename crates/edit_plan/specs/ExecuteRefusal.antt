-- Why a plan is not carried out in an order.
--     of_order                      The `ExecuteError` for an `OrderError`.
--     ExecuteRefuses                Why a plan is not carried out in an order: as `OrderRefuses` says, for the four refusals of an order;
--                                   as `RunRefuses` says, for `Edit`, and, except for `Memory`, only if the order `IsAllowed`.
use Rattle.std.specs.Prelude.{ℕ, List}
use Rattle.edit_steps.specs.OrderRefusal.{OrderRefuses}
use Rattle.edit_steps.specs.Schedule.{IsAllowed}
use Rattle.edit_steps.specs.declared.order.order_error.OrderError.{OrderError}
use Rattle.edit_steps.specs.declared.order.order_error.OrderError.TheVariants as order
use Rattle.edit_plan.specs.Plan.{Plan, RunRefuses}
use Rattle.edit_plan.specs.declared.edit_error.EditError.TheVariants.{Memory}
use Rattle.edit_plan.specs.declared.execute_error.ExecuteError.{ExecuteError}
use Rattle.edit_plan.specs.declared.execute_error.ExecuteError.TheVariants.{NotEachOnce, OwnerTooEarly, GapOutOfOrder, TokenTooEarly, Edit}

abbrev pub of_order : OrderError → ExecuteError
of_order order.NotEachOnce = NotEachOnce
of_order order.OwnerTooEarly = OwnerTooEarly
of_order order.GapOutOfOrder = GapOutOfOrder
of_order order.TokenTooEarly = TokenTooEarly
of_order order.Memory = Edit Memory

-- `next` is the number that the source of tree numbers gives next. The new tree is asked only of an allowed order.
abbrev pub ExecuteRefuses : Plan → List ℕ → ℕ → ExecuteError → Type 0
ExecuteRefuses p listed next NotEachOnce = OrderRefuses p.changes listed order.NotEachOnce
ExecuteRefuses p listed next OwnerTooEarly = OrderRefuses p.changes listed order.OwnerTooEarly
ExecuteRefuses p listed next GapOutOfOrder = OrderRefuses p.changes listed order.GapOutOfOrder
ExecuteRefuses p listed next TokenTooEarly = OrderRefuses p.changes listed order.TokenTooEarly
ExecuteRefuses p listed next (Edit Memory) = Unit {0}
ExecuteRefuses p listed next (Edit e) = IsAllowed p.changes listed × RunRefuses p next e
