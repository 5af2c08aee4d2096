-- Numbers by gap, as a table in code has them.
--     gap_entry                     the number at the gap that an aim fills
--     IsPut                         this gap has this number now, where it had one or none before
use Rattle.std.specs.Prelude.{◌≡◌, ℕ, cond, Option, None, Some}
use Rattle.std.specs.HashMap.{get_by}
use Rattle.cst_core.specs.Path.{same_path}
use Rattle.edit_change.specs.Aim.{Aim, FirstIn, AfterElement, Over, same_gap}
use Rattle.edit_steps.specs.declared.order.gap_table.GapTable.{GapTable}

abbrev pub gap_entry : GapTable → Aim → Option ℕ
gap_entry table (FirstIn p) = get_by (λ k. same_path p k.items) table.first
gap_entry table (AfterElement p) = get_by (λ k. same_path p k.items) table.after_element
gap_entry table (Over ps) = None

abbrev pub IsPut : GapTable → GapTable → Aim → ℕ → Type 0
IsPut before after a n = (b : Aim) → gap_entry after b ≡ cond (same_gap a b) (Some n) (gap_entry before b)
