use Rattle.std.proofs.Common.{◌≡◌, ◌++◌, ◌^◌, drop, string_bytes, IsCharBoundary}
use Rattle.text_edit.specs.TextPiece.{pieces, AreApart, FitText, applied_from, applied}
use Rattle.text_edit.proofs.apply.applied.Given as goal

abbrev pub invariant-loop-edit : goal.invariant-loop-edit
invariant-loop-edit l = record {
  apart : AreApart l.gone (drop l.edit-index (pieces l.edits)) (2 ^ 64);
  fit : FitText l.text (drop l.edit-index (pieces l.edits));
  boundary : IsCharBoundary l.text l.gone;
  text : string_bytes l.out ++ applied_from l.gone (drop l.edit-index (pieces l.edits)) (drop l.gone l.text) ≡ applied (pieces l.edits) l.text;
}
