use Rattle.std.proofs.Common.{◌≡◌, ◌+◌, ◌++◌, ◌^◌, ◌<◌, length, drop}
use Rattle.text_edit.specs.TextPiece.{pieces, AreApart, FitText, applied_from, applied}
use Rattle.text_edit.specs.Inverse.{inverted_from, inverted}
use Rattle.text_edit.proofs.inverse.inverse.Given as goal

abbrev pub invariant-loop-edit : goal.invariant-loop-edit
invariant-loop-edit l = record {
  apart : AreApart l.gone (drop l.edit-index (pieces l.edits)) (2 ^ 64);
  fit : FitText l.old (drop l.edit-index (pieces l.edits));
  small : l.made < 2 ^ 64;
  out_apart : AreApart 0 (pieces l.out.items) l.made;
  text : pieces l.out.items ++ inverted_from l.made l.gone (drop l.edit-index (pieces l.edits)) l.old ≡ inverted (pieces l.edits) l.old;
  count : l.made + length (applied_from l.gone (drop l.edit-index (pieces l.edits)) (drop l.gone l.old)) ≡ length (applied (pieces l.edits) l.old);
}
