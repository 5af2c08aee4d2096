use Rattle.std.proofs.Common.{◌≡◌, ◌≤◌, take}
use Rattle.text_edit.specs.TextPiece.{pieces, AreApart}
use Rattle.text_edit.specs.OrderRefusal.{piece_before}
use Rattle.text_edit.proofs.text_edits.ordered.Given as goal

abbrev pub invariant-loop-index : goal.invariant-loop-index
invariant-loop-index l = record {
  apart : AreApart 0 (take l.index (pieces l.edits)) l.end;
  within : l.end ≤ l.len;
  start_is : (piece_before (pieces l.edits) l.index).first ≡ l.start;
  end_is : (piece_before (pieces l.edits) l.index).stop ≡ l.end;
}
