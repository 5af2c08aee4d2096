-- Where a change aims once it stands elsewhere, and how deep it stands.
--     position_aim_from, aim_from   where a position, a change aims with another path in place of its own
--     depth                         more than the lengths of the paths around a change, and no more than those of what it replaces
use Rattle.std.specs.Prelude.{ℕ, suc, ◌-◌, length}
use Rattle.cst_core.specs.Path.{Path, last_slot}
use Rattle.cst_core.specs.SyntaxElement.{element_of}
use Rattle.edit_change.specs.Aim.{Aim, FirstIn, AfterElement, Over}
use Rattle.edit_change.specs.inner.Aimed.{siblings_from}
use Rattle.edit_change.specs.Position.{anchor}
use Rattle.edit_change.specs.ChangeAim.{aim_path}
use Rattle.edit_change.specs.declared.position.Position.{Position}
use Rattle.edit_change.specs.PositionForm.{FirstChild, After}
use Rattle.edit_change.specs.declared.change.Change.{Change}
use Rattle.edit_change.specs.declared.change.Change.TheVariants.{Insert, InsertAll, ReplaceAll}

abbrev pub position_aim_from : Path → Position → Aim
position_aim_from p (FirstChild n) = FirstIn p
position_aim_from p (After e) = AfterElement p

abbrev pub aim_from : Path → Change → Aim
aim_from p (Insert at e) = position_aim_from p at
aim_from p (InsertAll at es) = position_aim_from p at
aim_from p (ReplaceAll first last es) = Over (siblings_from p (suc (last_slot (element_of last).path) - last_slot (element_of first).path))
aim_from p _ = Over (siblings_from p 1)

abbrev pub depth : Change → ℕ
depth (Insert at e) = suc (length (anchor at).path)
depth (InsertAll at es) = suc (length (anchor at).path)
depth c = length (aim_path c)
