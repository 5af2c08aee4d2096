use Rattle.std.proofs.Common.{◌≡◌, ◌+◌, ◌-◌, ◌≤◌, ℕ, length, take, drop, IsCharBoundary}
use denote.Text.{Utf8}
use denote.Shadow.{shadow}
use Rattle.text_edit.specs.Wide.{wide_len}
use Rattle.text_edit.proofs.wide.WideEncoding.bytes_of.Given as goal

abbrev pub invariant-characters : goal.invariant-characters
invariant-characters l = record {
  is_text : shadow (Utf8 l.left);
  shorter : length l.left ≤ length l.text;
  left_is : drop (length l.text - length l.left) l.text ≡ l.left;
  bound : l.measured + length l.left ≤ length l.text;
  whole : l.measured + wide_len l.self l.left ≡ wide_len l.self l.text;
  first : (m : ℕ) → IsCharBoundary l.text m → wide_len l.self (take m l.text) ≡ l.wide → length l.text - length l.left ≤ m;
}

abbrev pub decreases-characters : goal.decreases-characters
decreases-characters l = length l.left
