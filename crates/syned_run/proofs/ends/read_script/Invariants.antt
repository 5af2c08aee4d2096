use Rattle.std.proofs.Common.{◌+◌, ◌-◌, ◌≤◌, vec_len}
use Rattle.std.specs.Io.KnownBytes.{Consumes}
use Rattle.syned_run.proofs.ends.read_script.Given as goal

-- what was read is the script so far
abbrev pub invariant-loop-script : goal.invariant-loop-script
invariant-loop-script g l = (vec_len l.script ≤ l.limit + 1) × Consumes (g.R.Read.remaining l.initial.reader) (g.R.Read.remaining l.reader) l.script.items

abbrev pub decreases-loop-script : goal.decreases-loop-script
decreases-loop-script g l = l.limit + 1 - vec_len l.script
