-- What an escape means.
--     meant      the byte that a backslash and this one stand for
use Rattle.std.specs.Prelude.{ℕ, ◌==◌, if◌then◌else◌, Option, Some, None}

abbrev pub meant : ℕ → Option ℕ
meant b =
    if b == 110 then Some 10 else
    if b == 114 then Some 13 else
    if b == 116 then Some 9 else
    if b == 34 then Some 34 else
    if b == 92 then Some 92 else
    None
