use Rattle.std.proofs.Common.{◌≡◌, ◌++◌, ◌^◌, drop}
use Rattle.std.specs.List.{All}
use Rattle.text_edit.specs.TextPiece.{pieces, AreApart, FitText, applied}
use Rattle.text_edit.specs.Trimmed.{IsTrimmed}
use Rattle.text_edit.proofs.trim.trimmed.Given as goal

abbrev pub invariant-loop-edit : goal.invariant-loop-edit
invariant-loop-edit l = record {
  apart : AreApart 0 (pieces l.out.items ++ drop l.edit-index (pieces l.edits)) (2 ^ 64);
  fit : FitText l.old (pieces l.out.items ++ drop l.edit-index (pieces l.edits));
  same : applied (pieces l.out.items ++ drop l.edit-index (pieces l.edits)) l.old ≡ applied (pieces l.edits) l.old;
  trimmed : All (IsTrimmed l.old) (pieces l.out.items);
}
