use Rattle.std.proofs.Common.{◌≡◌}
use Rattle.syntax_editor.proofs.Removed.{first_removed}
use Rattle.syntax_editor.proofs.attrs_owner_edit.removed_children.Given as goal

abbrev pub invariant-loop-slot : goal.invariant-loop-slot
invariant-loop-slot l = l.removed.items ≡ first_removed l.node l.slot
