use Rattle.std.proofs.Common.{◌≡◌, true, take}
use Rattle.std.specs.List.{list_all}
use Rattle.script_lines.specs.Line.{is_blank}
use Rattle.syned_script.specs.inner.Run.{texts_in}
use Rattle.syned_script.proofs.carried_out.first_not_blank.Given as goal

abbrev pub invariant-loop-index : goal.invariant-loop-index
invariant-loop-index l = list_all is_blank (take l.index (texts_in l.lines)) ≡ true
