use Rattle.std.proofs.Common.{◌≡◌, drop}
use Rattle.std.specs.List.{list_all}
use Rattle.tree_text.specs.KindNames.{is_name_byte}
use Rattle.tree_text.proofs.kind_names.is_spelled.Given as goal

abbrev pub invariant-loop-byte : goal.invariant-loop-byte
invariant-loop-byte l = list_all is_name_byte (drop l.byte-index l.byte-items) ≡ list_all is_name_byte l.byte-items
