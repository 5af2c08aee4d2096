use Rattle.std.proofs.Common.{◌≡◌, ◌+◌, ◌≤◌, length}
use denote.Text.{Utf8}
use denote.Shadow.{shadow}
use Rattle.text_edit.specs.Wide.{wide_len}
use Rattle.text_edit.proofs.wide.WideEncoding.measure.Given as goal

abbrev pub invariant-characters : goal.invariant-characters
invariant-characters l = record {
  is_text : shadow (Utf8 l.left);
  bound : l.measured + length l.left ≤ length l.text;
  whole : l.measured + wide_len l.self l.left ≡ wide_len l.self l.text;
}

abbrev pub decreases-characters : goal.decreases-characters
decreases-characters l = length l.left
