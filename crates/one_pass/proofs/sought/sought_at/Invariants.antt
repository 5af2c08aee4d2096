use Rattle.std.proofs.Common.{◌≡◌, ◌++◌, map, drop}
use Rattle.one_pass.specs.declared.sought.Registered.{Registered}
use Rattle.one_pass.specs.inner.Marked.{marks_seen}
use Rattle.one_pass.proofs.sought.sought_at.Given as goal

abbrev pub invariant-loop-one : goal.invariant-loop-one
invariant-loop-one l =
    marks_seen 0 l.sought.items ++ map (λ (r : Registered). (r.mark.number, drop l.depth r.mark.path.now)) (drop l.one-index l.here) ≡ map (λ (r : Registered). (r.mark.number, drop l.depth r.mark.path.now)) l.here
