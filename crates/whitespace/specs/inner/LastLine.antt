-- The last line of a text.
--     last_line                    what stands after its last newline, if it holds one
use Rattle.std.specs.Prelude.{ℕ, cond, List, Option, Some, None}
use Rattle.std.specs.List.{after_last}
use Rattle.whitespace.specs.Level.{is_newline, has_newline}

abbrev pub last_line : List ℕ → Option (List ℕ)
last_line s = cond (has_newline s) (Some (after_last is_newline s)) None
