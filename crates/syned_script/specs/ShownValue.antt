-- What is shown besides, in code, as contracts see it.
--     showing_of, outcome_of        What an answer shows besides; the outcome with an edit and words, and with that, if there is any.
use Rattle.std.specs.Prelude.{ℕ, List, Option, Some, None}
use Rattle.syntax_editor.specs.Plan.{Edit}
use Rattle.syned_script.specs.Script.{Outcome, Edited, Showed, Showing}
use Rattle.syned_script.specs.declared.shown.Shown.{Shown}

abbrev pub showing_of : Shown → Showing
showing_of s = record { details = s.details; kinds = s.names; edits = s.edits }

abbrev pub outcome_of : Edit → List (List ℕ) → Option Shown → Outcome
outcome_of edit words None = Edited edit words
outcome_of edit words (Some shown) = Showed edit words (showing_of shown)
