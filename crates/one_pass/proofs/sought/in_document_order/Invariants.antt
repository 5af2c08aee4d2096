use Rattle.std.proofs.Common.{◌≡◌, map, take}
use Rattle.std.specs.List.{enumerate_from}
use Rattle.one_pass.specs.inner.Sought.{as_registered, addresses}
use Rattle.one_pass.proofs.sought.in_document_order.Given as goal

abbrev pub invariant-loop-number : goal.invariant-loop-number
invariant-loop-number l = map as_registered l.registered.items ≡ enumerate_from 0 (addresses (take l.number l.elements))
