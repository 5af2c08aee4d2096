use Rattle.std.proofs.Common.{map, take}
use Rattle.script_lines.specs.Line.{Each, IsRef}
use Rattle.script_lines.specs.LineValue.{refs_of}
use Rattle.script_lines.proofs.field.references_in.Given as goal

abbrev pub invariant-loop-field : goal.invariant-loop-field
invariant-loop-field l = Each IsRef (map (λ f. f.text.now) (take l.field-index l.fields)) (refs_of l.references)
