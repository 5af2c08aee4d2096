use Rattle.std.proofs.Common.{◌≡◌, take}
use Rattle.cst_core.specs.PathDigest.{path_digest}
use Rattle.cst_core.proofs.path_digest.path_digest.Given as goal

abbrev pub invariant-loop-slot : goal.invariant-loop-slot
invariant-loop-slot l = l.digest ≡ path_digest (take l.slot-index l.path)
