-- What is put into room for it.
--     PutsInto                      Bytes stand at the beginning of a room that they fit into, and a room that is too small stays as it was.
--     AnswersIntoFor, AnswersInto   The same of the answer to a script of a dialect that ends with this status, so many bytes; in `Syned`.
--     EndsInFor, EndsIn             A script of a dialect ends with this status; in `Syned`.
--     HasNoEdit                     It ends with one above 0.
--     IsReasonFor, IsReason         A sentence, which is not empty, about a script that has no edit; in `Syned`.
--     ExplainsIntoFor, ExplainsInto  Nothing is put where the script has an edit, and the count is 0; else such a sentence, or `memory ran
--                                   out`, and the count is its length; in `Syned`.
use Rattle.std.specs.Prelude.{◌≡◌, ◌⊎◌, ℕ, ◌≤◌, ◌<◌, List, ◌++◌, length, drop, codes}
use Rattle.script_lines.specs.declared.dialect.Dialect.{Dialect}
use Rattle.script_lines.specs.declared.dialect.Dialect.TheVariants.{Syned}
use Rattle.syned_run.specs.Answer.{IsAnswerFor}

pub record PutsInto (bytes before after : List ℕ) : Type 0 where
  pub fits : length bytes ≤ length before → after ≡ bytes ++ drop (length bytes) before
  pub too_small : length before < length bytes → after ≡ before

abbrev pub AnswersIntoFor : Dialect → List ℕ → ℕ → ℕ → List ℕ → List ℕ → Type 0
AnswersIntoFor d script status n before after =
    (bytes : List ℕ) × IsAnswerFor d script status bytes × (length bytes ≡ n) × PutsInto bytes before after

abbrev pub AnswersInto : List ℕ → ℕ → ℕ → List ℕ → List ℕ → Type 0
AnswersInto script status n before after = AnswersIntoFor Syned script status n before after

abbrev pub EndsInFor : Dialect → List ℕ → ℕ → Type 0
EndsInFor d script status = (answer : List ℕ) × IsAnswerFor d script status answer

abbrev pub EndsIn : List ℕ → ℕ → Type 0
EndsIn script status = EndsInFor Syned script status

abbrev pub HasNoEdit : Dialect → List ℕ → Type 0
HasNoEdit d script = (status : ℕ) × (0 < status) × EndsInFor d script status

abbrev pub IsReasonFor : Dialect → List ℕ → List ℕ → Type 0
IsReasonFor d script reason = (0 < length reason) × HasNoEdit d script

abbrev pub IsReason : List ℕ → List ℕ → Type 0
IsReason script reason = IsReasonFor Syned script reason

abbrev pub ExplainsIntoFor : Dialect → List ℕ → ℕ → List ℕ → List ℕ → Type 0
ExplainsIntoFor d script n before after =
    ((n ≡ 0) × EndsInFor d script 0 × (after ≡ before))
    ⊎ ((reason : List ℕ) × (IsReasonFor d script reason ⊎ (reason ≡ codes "memory ran out")) × (length reason ≡ n)
    × (0 < n) × PutsInto reason before after)

abbrev pub ExplainsInto : List ℕ → ℕ → List ℕ → List ℕ → Type 0
ExplainsInto script n before after = ExplainsIntoFor Syned script n before after
