-- Exit statuses.
--     exit_code                             how a run ended, as a number
use Rattle.std.specs.Prelude.{ℕ}
use Rattle.syned_run.specs.declared.status.Status.{Status}
use Rattle.syned_run.specs.declared.status.Status.TheVariants as status

abbrev pub exit_code : Status → ℕ
exit_code status.Done = 0
exit_code status.Refused = 1
exit_code status.BadScript = 2
exit_code (status.Failed _) = 3
