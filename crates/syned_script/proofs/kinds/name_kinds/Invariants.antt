use Rattle.std.proofs.Common.{drop}
use Rattle.script_lines.specs.LineValue.{texts_of}
use Rattle.syned_script.proofs.KindsNamed.{Left}
use Rattle.syned_script.proofs.kinds.name_kinds.Given as goal

abbrev pub invariant-loop-field : goal.invariant-loop-field
invariant-loop-field l = Left l.initial.names (texts_of l.fields) l.names (texts_of (drop l.field-index l.fields))
