-- What the default order sorts by.
--     ShownTurn                     the path of a slot, which side of it, and a number
--     side_of, turn_of              of a change
--     turn_in, number_in            of a value in code; its number alone
use Rattle.std.specs.Prelude.{ℕ}
use Rattle.cst_core.specs.Path.{Path}
use Rattle.edit_change.specs.declared.change.Change.{Change}
use Rattle.edit_change.specs.declared.change.Change.TheVariants.{Insert, InsertAll}
use Rattle.edit_steps.specs.DefaultOrder.{document_path}
use Rattle.edit_change.specs.Nesting.{Numbered}
use Rattle.edit_steps.specs.declared.order.document_order.Side.{Side}
use Rattle.edit_steps.specs.declared.order.document_order.Side.TheVariants.{Gap, Slot}
use Rattle.edit_steps.specs.declared.order.document_order.Turn.{Turn}

pub record ShownTurn : Type 0 where
  pub path : Path
  pub side : Side
  pub number : ℕ

abbrev pub side_of : Change → Side
side_of (Insert at e) = Gap
side_of (InsertAll at es) = Gap
side_of _ = Slot

abbrev pub turn_of : Numbered → ShownTurn
turn_of c = record { path = document_path c.1; side = side_of c.1; number = c.0 }

abbrev pub turn_in : Turn → ShownTurn
turn_in t = record { path = t.path.items; side = t.side; number = t.number }

abbrev pub number_in : Turn → ℕ
number_in t = t.number
