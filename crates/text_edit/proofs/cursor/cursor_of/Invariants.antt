use Rattle.std.proofs.Common.{◌≡◌, ◌+◌, ◌≤◌, ◌<◌, ◌^◌, ℕ, false, take, drop}
use Rattle.text_edit.specs.TextPiece.{pieces, AreApart}
use Rattle.text_edit.specs.Cursor.{holds}
use Rattle.text_edit.proofs.Holding.{taken, put_in}
use Rattle.text_edit.proofs.cursor.cursor_of.Given as goal

abbrev pub invariant-loop-index : goal.invariant-loop-index
invariant-loop-index l = record {
  apart : AreApart l.gone (drop l.index (pieces l.edits)) (2 ^ 64);
  small : taken (take l.index (pieces l.edits)) ≤ l.gone;
  count : l.made + taken (take l.index (pieces l.edits)) ≡ l.gone + put_in (take l.index (pieces l.edits));
  before : (k : ℕ) → k < l.index → holds (pieces l.edits) l.start l.end k ≡ false;
}
