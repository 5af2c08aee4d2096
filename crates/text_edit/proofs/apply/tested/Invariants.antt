use Rattle.std.proofs.Common.{take}
use Rattle.text_edit.specs.TextPiece.{pieces, FitText}
use Rattle.text_edit.proofs.apply.tested.Given as goal

abbrev pub invariant-loop-index : goal.invariant-loop-index
invariant-loop-index l = FitText l.text (take l.index (pieces l.edits))
