use Rattle.std.proofs.Common.{◌^◌, List, ℕ, take, drop}
use Rattle.std.specs.Str.{IsUtf8}
use Rattle.text_edit.specs.TextPiece.{pieces, AreApart, FitText, applied}
use Rattle.text_edit.specs.inner.Composing.{place_of, IsPlace, Reached}
use Rattle.text_edit.proofs.compose.composed.Given as goal

abbrev pub invariant-loop-index : goal.invariant-loop-index
invariant-loop-index l = record {
  place : IsPlace (place_of l.composing);
  apart : AreApart l.passed (drop l.index (pieces l.next)) (2 ^ 64);
  reached : (s : List ℕ) → IsUtf8 s → FitText s (pieces l.first) → FitText (applied (pieces l.first) s) (take l.index (pieces l.next)) → Reached (pieces l.first) (pieces l.next) l.passed (drop l.index (pieces l.next)) (place_of l.composing) s;
}
