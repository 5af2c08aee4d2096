-- What may stand between elements, for a reader.
--     is_gap      the bytes that may, where spaces alone may, or blanks
use Rattle.std.specs.Prelude.{ℕ, Bool}
use Rattle.tree_text.specs.Grammar.{is_gap_space, is_gap_blank}
use Rattle.tree_text.specs.declared.gaps.Gaps.{Gaps}
use Rattle.tree_text.specs.declared.gaps.Gaps.TheVariants.{Spaces, Lines}

abbrev pub is_gap : Gaps → ℕ → Bool
is_gap Spaces = is_gap_space
is_gap Lines = is_gap_blank
