use Rattle.std.proofs.Common.{◌+◌, ◌-◌, ◌≤◌, length}
use Rattle.text_edit.specs.inner.Composing.{place_of, IsPlace, Passes}
use Rattle.text_edit.proofs.compose.Composing.pass.Given as goal

abbrev pub invariant-bytes : goal.invariant-bytes
invariant-bytes l = record {
  place : IsPlace (place_of l.self);
  bound : l.to_pass ≤ l.n;
  passes : Passes l.pass l.n (l.n - l.to_pass) (place_of l.initial.self) (place_of l.self);
}

abbrev pub decreases-bytes : goal.decreases-bytes
decreases-bytes l = l.to_pass + length l.self.rest.now
