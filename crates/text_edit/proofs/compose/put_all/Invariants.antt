use Rattle.std.proofs.Common.{drop}
use Rattle.text_edit.specs.TextPiece.{pieces}
use Rattle.text_edit.specs.inner.Composing.{PutsSome}
use Rattle.text_edit.proofs.compose.put_all.Given as goal

abbrev pub invariant-loop-edit : goal.invariant-loop-edit
invariant-loop-edit l = PutsSome (pieces l.initial.out.items) (pieces l.out.items) l.at (pieces l.edits) (drop l.edit-index (pieces l.edits))
