use Rattle.std.proofs.Common.{◌≢◌, take, codes}
use Rattle.std.specs.List.{AllByRecursion}
use Rattle.script_lines.specs.LineValue.{texts_of}
use Rattle.script_lines.proofs.field.first_bar.Given as goal

abbrev pub invariant-loop-index : goal.invariant-loop-index
invariant-loop-index l = AllByRecursion (λ f. f ≢ codes "|") (texts_of (take l.index l.fields))
