-- Answers that worked examples speak of.
--     IsAnswer            `IsAnswerFor` the dialect `Syned`
use Rattle.std.specs.Prelude.{ℕ, List}
use Rattle.script_lines.specs.declared.dialect.Dialect.TheVariants.{Syned}
use Rattle.syned_run.specs.Answer.{IsAnswerFor}

abbrev pub IsAnswer : List ℕ → ℕ → List ℕ → Type 0
IsAnswer bytes status answer = IsAnswerFor Syned bytes status answer
