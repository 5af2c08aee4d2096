use Rattle.std.proofs.Common.{◌≡◌, ◌<◌, ℕ, length, slice_get, slice_index_or, Some, None}
use Rattle.edit_change.specs.inner.Fate.{fate}
use Rattle.edit_change.specs.declared.change.Change.{Change}
use Rattle.edit_steps.specs.inner.Payload.{BeginsPayload}
use Rattle.edit_steps.proofs.stages.payload.payload_stages.Given as goal

abbrev pub invariant-loop-number : goal.invariant-loop-number
invariant-loop-number l =
    record {
      long : length l.stages.items ≡ l.number;
      each : (n : ℕ) (c : Change) → n < l.number → slice_get l.changes n ≡ Some c → BeginsPayload c (fate l.changes c) (slice_index_or l.stages.items n None);
    }
