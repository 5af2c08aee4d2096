-- Counts of nodes that are built.
--     counted                       A count after n more; at 2^64 - 1 it stays.
use Rattle.std.specs.Prelude.{ℕ, ◌+◌, ◌-◌, ◌^◌, min}

abbrev pub counted : ℕ → ℕ → ℕ
counted n further = min (n + further) (2 ^ 64 - 1)
