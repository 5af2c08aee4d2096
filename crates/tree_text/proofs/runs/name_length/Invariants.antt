-- The bytes before this one.
use Rattle.std.proofs.Common.{◌≡◌, true, take}
use Rattle.std.specs.List.{list_all}
use Rattle.tree_text.specs.KindNames.{is_name_byte}
use Rattle.tree_text.proofs.runs.name_length.Given as goal

abbrev pub invariant-loop-index : goal.invariant-loop-index
invariant-loop-index l = list_all is_name_byte (take l.index l.text) ≡ true
