-- What it means that a line is refused, or a part of one.
--     Refuses                       An error says that nothing is written so, if it is `Bad`.
use Rattle.script_lines.specs.declared.error.LineError.{LineError}
use Rattle.script_lines.specs.declared.error.LineError.TheVariants.{Bad, Memory}

abbrev pub Refuses : {A : Type 0} → (A → Type 0) → LineError → Type 0
Refuses {A} IsSaid (Bad fault) = (a : A) → IsSaid a → ⊥
Refuses IsSaid Memory = Unit {0}
