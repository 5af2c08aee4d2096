-- The elements of a tree by where their texts stand, in bytes from the tree's start.
--     length_at                     How many bytes the text of the element at a path has.
--     touches                       A text is not empty, starts at an offset or before it, and ends there or after it.
--     covers                        A text contains a range from its first byte up to its end.
--
-- Each token of `L` has one byte. At byte 1 the tokens `0` and `1/0` touch, at byte 0 only the token `0`. In `(ARG_LIST
-- L_PAREN"(" COMMA"" R_PAREN")")` the tokens `0` and `2` touch at byte 1, since the comma is empty. Bytes 1 to 2 of `L`
-- are covered by `.`, `1` and `1/0`, of which `1/0` is the last. Bytes 1 to 3 are covered by `.` alone, and the empty
-- range at byte 1 by `.`, `0`, `1` and `1/0`.
use Rattle.std.specs.Prelude.{ℕ, ◌+◌, Bool, ◌&&◌, nat_lt, nat_le}
use Rattle.std.specs.Option.{option_map_or}
use Rattle.green_tree.specs.Path.{Path}
use Rattle.green_tree.specs.Tree.{Tree, at, text_length}
use Rattle.green_tree.specs.Order.{start}

abbrev pub length_at : {L : Type 0} → Tree L → Path → ℕ
length_at t p = option_map_or text_length (at t p) 0

abbrev pub touches : {L : Type 0} → Tree L → ℕ → Path → Bool
touches t offset p = nat_lt 0 (length_at t p) && nat_le (start t p) offset && nat_le offset (start t p + length_at t p)

abbrev pub covers : {L : Type 0} → Tree L → ℕ → ℕ → Path → Bool
covers t from to p = nat_le (start t p) from && nat_le from to && nat_le to (start t p + length_at t p)
