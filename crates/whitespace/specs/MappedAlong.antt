-- What is mapped along with a copy of a node.
--     is_not_younger, is_too_old    A node has child nodes, and the number of its copy is not greater than the node's; the same, and
--                                   mappings are kept.
--     MapsAlong                     A mapping, if one is kept, gets the pairs of child nodes, which win.
use Rattle.std.specs.Prelude.{◌≡◌, ◌&&◌, not, nat_le, nat_eq, ℕ, Bool, List, ◌++◌, length, reverse, Option, Some, None, is_some}
use Rattle.cst_core.specs.Element.{Element}
use Rattle.cst_core.specs.SyntaxElement.{child_nodes}
use Rattle.edit_map.specs.Mapping.{Mapping}
use Rattle.edit_map.specs.Builder.{IsMadeOf}

-- where nothing would be mapped, any number will do
abbrev pub is_not_younger : Element → ℕ → Bool
is_not_younger old number = not (nat_eq (length (child_nodes old)) 0) && nat_le number old.number

abbrev pub is_too_old : Option Mapping → Element → ℕ → Bool
is_too_old kept old number = is_some kept && is_not_younger old number

abbrev pub MapsAlong : List (Element × Element) → Option Mapping → Option Mapping → Type 0
MapsAlong pairs None after = after ≡ None
MapsAlong pairs (Some m) None = ⊥
MapsAlong pairs (Some m) (Some after) = IsMadeOf (reverse pairs ++ m) after
