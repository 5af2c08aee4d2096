use Rattle.std.proofs.Common.{map}
use Rattle.script_lines.specs.Line.{Each, IsNumber}
use Rattle.script_lines.proofs.reference.read_slots.Given as goal

abbrev pub invariant-loop-part : goal.invariant-loop-part
invariant-loop-part l = Each IsNumber (map (λ x. x.now) l.yielded) l.slots.items
