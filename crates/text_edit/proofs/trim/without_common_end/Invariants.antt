use Rattle.std.proofs.Common.{◌≡◌, ◌++◌, ℕ, List, length}
use denote.Text.{Utf8}
use denote.Shadow.{shadow}
use Rattle.text_edit.proofs.trim.without_common_end.Given as goal

abbrev pub invariant-characters : goal.invariant-characters
invariant-characters l = record {
  old_text : shadow (Utf8 l.old_left);
  new_text : shadow (Utf8 l.new_left);
  cut : (cut : List ℕ) × (l.old ≡ l.old_left ++ cut) × (l.new ≡ l.new_left ++ cut);
}

abbrev pub decreases-characters : goal.decreases-characters
decreases-characters l = length l.old_left
