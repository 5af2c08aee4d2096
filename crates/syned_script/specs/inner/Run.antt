-- What the functions give that carry out the lines of a script.
--     texts_in            the texts of lines in code
--     IsBadText           the line of a text is bad
--     TextStops           why it was not carried out
--     TextGives           what carrying it out gives: whether it was `finish`
--     Reached             lines were carried out, in a dialect, up to `finish`, the line with this number
--     EndIsGood           something is edited, and nothing follows
--     IsBadEnd            the line that is bad where `finish` is no good end: its own, if nothing is edited, or the first that follows
--     EndStops            `finish` is no good end
--     GivesEdits          edits of the old text are those of the plan, where these are to be shown
--     RunStops            why a plan is not carried out, in an order if there is one
--     FinishStops         why `finish` gave no edit
use Rattle.std.specs.Prelude.{◌≡◌, ◌⊎◌, ℕ, suc, ◌+◌, Bool, true, false, not, List, ◌∷◌, ◌++◌, length, map, Option, Some, None, MatchBool, Result, Ok, Err, is_some}
use Rattle.std.specs.List.{list_all, position_or_len}
use Rattle.std.specs.Option.{IsSomeAnd}
use denote.Ref.{Bor}
use Rattle.script_lines.specs.declared.dialect.Dialect.{Dialect}
use Rattle.script_lines.specs.Line.{is_blank, IsLine}
use Rattle.script_lines.specs.ScriptLine.{ScriptLine, Finish}
use Rattle.syned_script.specs.State.{State, new_state, Editing, Goes, Refuses, IsBad, Steps}
use Rattle.syntax_editor.specs.TextPiece.{TextPiece}
use Rattle.syntax_editor.specs.Plan.{Plan, RunRefuses}
use Rattle.syntax_editor.specs.ExecuteRefusal.{ExecuteRefuses}
use Rattle.syntax_editor.specs.EditError.TheVariants as edit_error
use Rattle.syntax_editor.specs.ExecuteError.TheVariants as execute_error
use Rattle.syned_script.specs.Script.{AreEditsOf, Carried, EndRefuses}
use Rattle.syned_script.specs.inner.Stops.{StopsFor}
use Rattle.syned_script.specs.declared.shown.Details.{Details}
use Rattle.syned_script.specs.declared.refusal.Refusal.{Refusal}
use Rattle.syned_script.specs.declared.refusal.Refusal.TheVariants as refused
use Rattle.syned_script.specs.declared.stop.Stop.{Stop}
use Rattle.syned_script.specs.declared.stop.Stopped.{Stopped}

abbrev pub texts_in : List (Bor (List ℕ)) → List (List ℕ)
texts_in lines = map (λ l. l.now) lines

abbrev pub IsBadText : State → List ℕ → Type 0
IsBadText s text =
    ((line : ScriptLine) → IsLine s.language text line → ⊥)
    ⊎ ((line : ScriptLine) × IsLine s.language text line × Steps s line IsBad)

abbrev pub TextStops : State → List ℕ → Stop → Type 0
TextStops s text stop =
    StopsFor (IsBadText s text) (λ r. (line : ScriptLine) × IsLine s.language text line × Steps s line (Refuses r)) stop

abbrev pub TextGives : State → List ℕ → Result Bool Stop → State → Type 0
TextGives s text (Ok true) t = IsLine s.language text Finish × (t ≡ s)
TextGives s text (Ok false) t = (line : ScriptLine) × IsLine s.language text line × Steps s line (Goes t)
TextGives s text (Err stop) t = TextStops s text stop

pub record Reached (d : Dialect) (texts : List (List ℕ)) (number : ℕ) (t : State) : Type 0 where
  pub before : List (List ℕ)
  pub finish : List ℕ
  pub after : List (List ℕ)
  pub is : texts ≡ before ++ finish ∷ after
  pub counted : number ≡ suc (length before)
  pub carried : Carried before (new_state d) t
  pub finishes : IsLine t.language finish Finish

abbrev pub EndIsGood : State → List (List ℕ) → Type 0
EndIsGood s after = (is_some s.editing ≡ true) × (list_all is_blank after ≡ true)

abbrev pub IsBadEnd : State → List (List ℕ) → ℕ → ℕ → Type 0
IsBadEnd s after number bad =
    ((s.editing ≡ None) × (bad ≡ number))
    ⊎ ((is_some s.editing ≡ true) × (list_all is_blank after ≡ false)
    × (bad ≡ suc number + position_or_len (λ line. not (is_blank line)) after))

abbrev pub EndStops : State → List (List ℕ) → ℕ → Stopped → Type 0
EndStops s after number stopped = StopsFor (IsBadEnd s after number stopped.line) (λ r. ⊥) stopped.stop

abbrev pub GivesEdits : Details → Plan → Option (List TextPiece) → Type 0
GivesEdits d p edits = MatchBool d.edits (IsSomeAnd edits (AreEditsOf p)) (edits ≡ None)

abbrev pub RunStops : Plan → Option (List ℕ) → ℕ → Refusal → Type 0
RunStops p order next (refused.Edit edit_error.Memory) = ⊥
RunStops p None next (refused.Edit reason) = RunRefuses p next reason
RunStops p (Some order) next (refused.Edit reason) = ExecuteRefuses p order next (execute_error.Edit reason)
RunStops p (Some order) next (refused.Order (execute_error.Edit reason)) = ⊥
RunStops p (Some order) next (refused.Order reason) = ExecuteRefuses p order next reason
RunStops p order next _ = ⊥

abbrev pub FinishStops : State → Stop → Type 0
FinishStops s stop =
    StopsFor (s.editing ≡ None)
    (λ r. (e : Editing) × (s.editing ≡ Some e) × EndRefuses e.editor e.order s.next r) stop
