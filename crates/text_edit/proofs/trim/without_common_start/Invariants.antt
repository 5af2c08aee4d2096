use Rattle.std.proofs.Common.{◌≡◌, ◌++◌, ℕ, List, length}
use denote.Text.{Utf8}
use denote.Shadow.{shadow}
use Rattle.text_edit.proofs.trim.without_common_start.Given as goal

abbrev pub invariant-characters : goal.invariant-characters
invariant-characters l = record {
  old_text : shadow (Utf8 l.old_left);
  new_text : shadow (Utf8 l.new_left);
  cut : (cut : List ℕ) × (l.old ≡ cut ++ l.old_left) × (l.new ≡ cut ++ l.new_left);
}

abbrev pub decreases-characters : goal.decreases-characters
decreases-characters l = length l.old_left
