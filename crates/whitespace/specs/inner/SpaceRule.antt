-- The lines of the table of spacing by kinds alone.
--     neighbor_of                 a neighbor of a kind at a level
--     space_by                    the whitespace that a line says, of elements at these levels
use Rattle.std.specs.Prelude.{ℕ, max}
use Rattle.whitespace.specs.declared.space_rule.SpaceRule.{SpaceRule}
use Rattle.whitespace.specs.declared.space_rule.SpaceRule.TheVariants as rule
use Rattle.cst_core.specs.SyntaxKind.{SyntaxKind}
use Rattle.whitespace.specs.Spacing.{Neighbor, Space, NoSpace, OneSpace, NewLine}

abbrev pub space_by : SpaceRule → ℕ → ℕ → Space
space_by rule.Nothing left right = NoSpace
space_by rule.OneSpace left right = OneSpace
space_by rule.LineOfLeft left right = NewLine left
space_by rule.LineOfRight left right = NewLine right
space_by rule.LineOfDeeper left right = NewLine (max left right)

abbrev pub neighbor_of : SyntaxKind → ℕ → Neighbor
neighbor_of kind level = record { kind = kind.0; level = level }
