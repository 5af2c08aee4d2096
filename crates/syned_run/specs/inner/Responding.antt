-- What is written of the answer to a script of a dialect.
--     Responds            all of the answer that ends with this status
--     WritesSome          nothing, or a beginning of an answer
--     OutcomeIn           a script that is text and not too long ends with this status
--     IsReasonOf          a sentence, which is not empty, about such a script that has no edit
use Rattle.std.specs.Prelude.{ℕ, ◌<◌, List, length, take, Option, ◌⊎◌}
use Rattle.std.specs.Io.KnownBytes.{Appends, Keeps}
use Rattle.script_lines.specs.declared.dialect.Dialect.{Dialect}
use Rattle.syned_run.specs.Answer.{IsAnswerFor, IsOutcome}

abbrev pub Responds : {W : Type 0} → Dialect → (W → Option (List ℕ)) → List ℕ → W → W → ℕ → Type 0
Responds d contents script before after status =
    (bytes : List ℕ) × IsAnswerFor d script status bytes × Appends (contents before) (contents after) bytes

abbrev pub WritesSome : {W : Type 0} → Dialect → (W → Option (List ℕ)) → List ℕ → W → W → Type 0
WritesSome d contents script before after =
    Keeps (contents before) (contents after)
    ⊎ ((status : ℕ) × (bytes : List ℕ) × IsAnswerFor d script status bytes
    × (n : ℕ) × Appends (contents before) (contents after) (take n bytes))

abbrev pub OutcomeIn : Dialect → List ℕ → ℕ → Type 0
OutcomeIn d script status = (answer : List ℕ) × IsOutcome d script status answer

abbrev pub IsReasonOf : Dialect → List ℕ → List ℕ → Type 0
IsReasonOf d script reason = (0 < length reason) × ((status : ℕ) × (0 < status) × OutcomeIn d script status)
