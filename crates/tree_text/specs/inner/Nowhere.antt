-- Errors that don't come.
--     Nowhere        such an error comes at no byte
use Rattle.std.specs.Prelude.{ℕ}

abbrev pub Nowhere : ℕ → Type 0
Nowhere at = ⊥
