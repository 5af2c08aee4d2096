-- Typed nodes indented and dedented.
--     indented_root, dedented_root  The root of a given number that a node becomes, indented or dedented by a level.
--     MapsChildren                  `MapsAlong` of two typed nodes: the child nodes of the first get those of the second as copies.
--     IndentRefuses                 `MappingRefuses` of a typed node.
use Rattle.std.specs.Prelude.{ℕ, Option}
use Rattle.cst_core.specs.Element.{Element, subtree}
use Rattle.edit_map.specs.Mapping.{Mapping}
use Rattle.whitespace.specs.Indentation.{indented, dedented, mapped_children}
use Rattle.whitespace.specs.IndentCalls.{fresh_root, MappingRefuses}
use Rattle.whitespace.specs.MappedAlong.{is_too_old, MapsAlong}
use Rattle.whitespace.specs.declared.indent_error.IndentError.{IndentError}

abbrev pub indented_root : ℕ → ℕ → Element → Element
indented_root number level n = fresh_root number (indented level (subtree n))

abbrev pub dedented_root : ℕ → ℕ → Element → Element
dedented_root number level n = fresh_root number (dedented level (subtree n))

abbrev pub MapsChildren : {N : Type 0} → (N → Element) → Option Mapping → Option Mapping → N → N → Type 0
MapsChildren node_of before after old new = MapsAlong (mapped_children (node_of old) (node_of new)) before after

abbrev pub IndentRefuses : Option Mapping → ℕ → ℕ → Element → IndentError → Type 0
IndentRefuses kept number level n e = MappingRefuses (is_too_old kept n number) (indented level (subtree n)) number e
