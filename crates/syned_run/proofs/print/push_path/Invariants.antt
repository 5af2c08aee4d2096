use Rattle.std.proofs.Common.{◌≡◌, ◌++◌, take, string_bytes}
use Rattle.std.specs.List.{flat_map}
use Rattle.syntax_editor.specs.PlanText.{slot_text}
use Rattle.syned_run.proofs.print.push_path.Given as goal

abbrev pub invariant-loop-slot : goal.invariant-loop-slot
invariant-loop-slot l = string_bytes l.out ≡ string_bytes l.initial.out ++ flat_map slot_text (take l.slot-index l.others)
