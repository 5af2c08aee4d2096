-- Why child nodes are not mapped along with a copy of their node.
--     AlongRefuses                why mappings stay, where this says that the copy is too old
--     of_pairs                    the same of a refusal of their pairs; there is no answer for those that cannot come there
use Rattle.std.specs.Prelude.{◌≡◌, Bool, true, Option, Some, None}
use Rattle.edit_map.specs.declared.map_error.MapError.{MapError}
use Rattle.edit_map.specs.declared.map_error.MapError.TheVariants as pairs
use Rattle.whitespace.specs.declared.indent_error.IndentError.{IndentError}
use Rattle.whitespace.specs.declared.indent_error.IndentError.TheVariants as indent

abbrev pub AlongRefuses : Bool → IndentError → Type 0
AlongRefuses old indent.NotYounger = old ≡ true
AlongRefuses old indent.Memory = Unit {0}
AlongRefuses old _ = ⊥

abbrev pub of_pairs : MapError → Option IndentError
of_pairs pairs.NotYounger = Some indent.NotYounger
of_pairs pairs.Memory = Some indent.Memory
of_pairs _ = None
