use Rattle.std.proofs.Common.{◌-◌, ◌<◌, ◌≤◌, length, get_or}
use Rattle.text_edit.proofs.line_index.line_at.Given as goal

abbrev pub invariant-lines : goal.invariant-lines
invariant-lines l = record {
  ordered : l.low < l.high;
  within : l.high ≤ length l.starts;
  before : get_or l.starts l.low 0 ≤ l.offset;
  behind : l.high < length l.starts → l.offset < get_or l.starts l.high 0;
}

abbrev pub decreases-lines : goal.decreases-lines
decreases-lines l = l.high - l.low
