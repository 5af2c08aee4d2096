use Rattle.std.proofs.Common.{◌≡◌, map, take}
use Rattle.edit_plan.specs.ElementCursor.{element_cursor}
use Rattle.edit_plan.proofs.edit.SyntaxEdit.find_cursors.Given as goal

abbrev pub invariant-loop-element : goal.invariant-loop-element
invariant-loop-element l = l.cursors.items ≡ map (element_cursor l.edits) (take l.element-index l.elements)
