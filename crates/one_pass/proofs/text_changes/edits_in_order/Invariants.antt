use Rattle.std.proofs.Common.{◌≡◌, ◌++◌, map, flat_map, drop}
use Rattle.text_edit.specs.TextPiece.{as_piece}
use Rattle.one_pass.specs.inner.TextOrder.{pieces_by}
use Rattle.one_pass.specs.declared.mark.Mark.{Mark}
use Rattle.one_pass.proofs.text_changes.edits_in_order.Given as goal

abbrev pub invariant-loop-mark : goal.invariant-loop-mark
invariant-loop-mark l =
    map as_piece l.edits.items ++ flat_map (λ (m : Mark). pieces_by l.root l.changes l.given m.number) (drop l.mark-index l.marks) ≡ flat_map (λ (m : Mark). pieces_by l.root l.changes l.given m.number) l.marks
