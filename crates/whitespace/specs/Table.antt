-- Tables of lines, each with a test and a value.
--     first_fit                     In a table of tests and values, the value of the first line whose test holds.
use Rattle.std.specs.Prelude.{Bool, List, Option, option_map, find}

abbrev pub first_fit : {X : Type 0} → List (Bool × X) → Option X
first_fit lines = option_map (λ line. line.1) (find (λ line. line.0) lines)
