use Rattle.std.proofs.Common.{map, take}
use Rattle.script_lines.specs.Line.{Each, IsNumber}
use Rattle.script_lines.proofs.field.Fields.numbers.Given as goal

abbrev pub invariant-loop-field : goal.invariant-loop-field
invariant-loop-field l = Each IsNumber (map (λ f. f.text.now) (take l.field-index l.field-items)) l.numbers.items
