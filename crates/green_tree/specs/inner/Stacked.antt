-- A stack of what is left to visit below a path.
--     AreStacked                    each on the stack has a property, and none is less deep than the one before; the depths are between two of them
use Rattle.std.specs.Prelude.{ℕ, ◌≤◌, List, [], ◌∷◌}

abbrev pub AreStacked : {X : Type 0} → (X → ℕ) → (X → Type 0) → ℕ → ℕ → List X → Type 0
AreStacked depth P low high [] = low ≤ high
AreStacked depth P low high (x ∷ rest) = (low ≤ depth x) × (P x × AreStacked depth P (depth x) high rest)
