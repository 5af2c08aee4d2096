use Rattle.std.proofs.Common.{◌≡◌, filter, map, not}
use Rattle.script_lines.specs.Line.{is_empty}
use Rattle.script_lines.proofs.field.Fields.others.Given as goal

-- the fields so far are the parts so far that are not empty
abbrev pub invariant-loop-text : goal.invariant-loop-text
invariant-loop-text l = map (λ f. f.text.now) l.fields.items ≡ filter (λ f. not (is_empty f)) (map (λ x. x.now) l.yielded)
