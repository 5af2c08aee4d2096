-- What a script means.
--     lines_of_parts, lines_in      The lines of a text: what stands before each newline, and the rest, unless that is empty.
--     Showing                       What an answer shows besides: what was asked for, the names of kinds, and the edits of the old text,
--                                   where these were asked for.
--     Outcome                       How a script ends: `Edited`, with the edit and the annotation words, `Showed`, with what its answer
--                                   shows besides, `Refused`, or `BadLine`, with the number of the line.
--     EndRefuses                    Why `finish` does not carry the changes out. With an order the plan comes first, then the order, then
--                                   the new tree.
--     AreEditsOf, Shows             Edits of the old text are those of a plan; what is shown besides is what was asked for.
--     CarriesOut, FinishGives       The edit is what the plan of the editor makes, its text is not too long, and the order, if there is
--                                   one, is allowed; what `finish` gives of what is edited.
--     FinishEnds                    How `finish` ends a script: the first line after it that is not blank is bad.
--     LineEnds, Ends                How a line with a number ends the script before other lines; the same of lines, the first of which has
--                                   the number. Without a `finish` it is the line after the last one that is bad.
--     Carried                       Lines were carried out, one after the other.
--     EndsSo                        How lines end in a dialect: those before one were carried out, and that one ends them.
--     MeansFor, Means               How a script ends in a dialect; in `Syned`.
--     EndsAt                        Lines end so (`EndsSo`), and the line that ends them has this number.
--     StopsSo                       Lines without an edit end so in a dialect, unless memory ran out; a refused call at its line.
--     StopsAtFor, StopsAt           So does a script; in `Syned`.
use Rattle.std.specs.Prelude.{◌≡◌, ◌⊎◌, ℕ, suc, ◌+◌, ◌==◌, ◌<◌, true, false, not, cond, List, [], ◌∷◌, ◌++◌, length, Option, Some, None, IfSome, MatchOption, MatchBool}
use Rattle.std.specs.List.{slice_split, list_all, position_or_len}
use Rattle.std.specs.Option.{IsSomeAnd}
use Rattle.syntax_editor.specs.Tree.{text_length}
use Rattle.syntax_editor.specs.Green.{length_limit}
use Rattle.syntax_editor.specs.Path.{Path}
use Rattle.syntax_editor.specs.Places.{ArePlaces}
use Rattle.syntax_editor.specs.TextPiece.{TextPiece}
use Rattle.syntax_editor.specs.TextEdits.{text_pieces}
use Rattle.syntax_editor.specs.Plan.{Plan, Edit, IsPlan, BuildRefuses, Makes}
use Rattle.syntax_editor.specs.EditError.TheVariants as edit_error
use Rattle.syntax_editor.specs.ExecuteError.TheVariants as execute_error
use Rattle.syntax_editor.specs.Schedule.{IsAllowed}
use Rattle.syntax_editor.specs.ExecuteRefusal.{ExecuteRefuses}
use Rattle.syntax_editor.specs.Editor.{Editor, plan_of, FinishRefuses}
use Rattle.tree_text.specs.KindNames.{KindName}
use Rattle.script_lines.specs.declared.dialect.Dialect.{Dialect}
use Rattle.script_lines.specs.declared.dialect.Dialect.TheVariants.{Syned}
use Rattle.script_lines.specs.ScriptLine as line
use Rattle.script_lines.specs.ScriptLine.{ScriptLine}
use Rattle.script_lines.specs.Line.{is_empty, is_blank, IsLine}
use Rattle.syned_script.specs.declared.refusal.Refusal.{Refusal}
use Rattle.syned_script.specs.declared.refusal.Refusal.TheVariants as refused
use Rattle.syned_script.specs.declared.stop.Stop.{Stop}
use Rattle.syned_script.specs.declared.stop.Stop.TheVariants as stop
use Rattle.syned_script.specs.declared.shown.Details.{Details}
use Rattle.syned_script.specs.State.{State, new_state, asks, Editing, Goes, Refuses, IsBad, Steps}

-- ---- lines
abbrev pub lines_of_parts : List (List ℕ) → List (List ℕ)
lines_of_parts [] = []
lines_of_parts (rest ∷ []) = cond (is_empty rest) [] (rest ∷ [])
lines_of_parts (line ∷ next ∷ more) = line ∷ lines_of_parts (next ∷ more)

abbrev pub lines_in : List ℕ → List (List ℕ)
lines_in text = lines_of_parts (slice_split (λ b. b == 10) text)

-- ---- the end
pub record Showing : Type 0 where
  pub details : Details
  pub kinds : List KindName
  pub edits : Option (List TextPiece)

pub data Outcome : Type 0 where
  Edited : (edit : Edit) (words : List (List ℕ)) → Outcome
  Showed : (edit : Edit) (words : List (List ℕ)) (shown : Showing) → Outcome
  Refused : (refusal : Refusal) → Outcome
  BadLine : (number : ℕ) → Outcome

-- with an order there is a plan first, which is carried out in this order
abbrev pub EndRefuses : Editor → Option (List ℕ) → ℕ → Refusal → Type 0
EndRefuses e order next (refused.Edit edit_error.Memory) = ⊥
EndRefuses e None next (refused.Edit reason) = FinishRefuses e next reason
EndRefuses e (Some order) next (refused.Edit reason) =
    BuildRefuses (plan_of e) reason
    ⊎ (IsPlan (plan_of e) × ExecuteRefuses (plan_of e) order next (execute_error.Edit reason))
EndRefuses e (Some order) next (refused.Order (execute_error.Edit reason)) = ⊥
EndRefuses e (Some order) next (refused.Order reason) =
    IsPlan (plan_of e) × ExecuteRefuses (plan_of e) order next reason
EndRefuses e _ next _ = ⊥

-- of an order, if there is one, it is an allowed one; a new text that is too long is refused
abbrev pub CarriesOut : Editing → ℕ → Edit → Type 0
CarriesOut e next edit =
    IsPlan (plan_of e.editor) × IfSome e.order (IsAllowed e.editor.changes)
    × Makes (plan_of e.editor) next edit × (text_length edit.new_root.root < length_limit)

abbrev pub AreEditsOf : Plan → List TextPiece → Type 0
AreEditsOf p edits = (places : ℕ → Path) → ArePlaces p.mapping p.changes places → edits ≡ text_pieces p.root p.changes places

pub record Shows (s : State) (e : Editing) (shown : Showing) : Type 0 where
  pub asked : asks e.details ≡ true
  pub details : shown.details ≡ e.details
  pub kinds : shown.kinds ≡ s.language.kinds
  pub edits : MatchBool e.details.edits (IsSomeAnd shown.edits (AreEditsOf (plan_of e.editor))) (shown.edits ≡ None)

abbrev pub FinishGives : State → Editing → Outcome → Type 0
FinishGives s e (Edited edit words) = CarriesOut e s.next edit × (words ≡ s.words) × (asks e.details ≡ false)
FinishGives s e (Showed edit words shown) = CarriesOut e s.next edit × (words ≡ s.words) × Shows s e shown
FinishGives s e (Refused reason) = EndRefuses e.editor e.order s.next reason
FinishGives s e (BadLine number) = ⊥

abbrev pub FinishEnds : ℕ → State → Editing → List (List ℕ) → Outcome → Type 0
FinishEnds n s e after o =
    MatchBool (list_all is_blank after) (FinishGives s e o)
    (o ≡ BadLine (suc n + position_or_len (λ line. not (is_blank line)) after))

abbrev pub LineEnds : ℕ → State → ScriptLine → List (List ℕ) → Outcome → Type 0
LineEnds n s line.Finish after o = MatchOption s.editing (o ≡ BadLine n) (λ e. FinishEnds n s e after o)
LineEnds n s call after (Refused reason) = Steps s call (Refuses reason)
LineEnds n s call after (BadLine number) = (number ≡ n) × Steps s call IsBad
LineEnds n s call after (Edited edit words) = ⊥
LineEnds n s call after (Showed edit words shown) = ⊥

abbrev pub Ends : ℕ → State → List (List ℕ) → Outcome → Type 0
Ends n s [] o = o ≡ BadLine n
Ends n s (text ∷ after) o =
    (((line : ScriptLine) → IsLine s.language text line → ⊥) × (o ≡ BadLine n))
    ⊎ ((line : ScriptLine) × IsLine s.language text line × LineEnds n s line after o)

-- ---- the whole
abbrev pub Carried : List (List ℕ) → State → State → Type 0
Carried [] s t = t ≡ s
Carried (text ∷ texts) s t =
    (line : ScriptLine) × (next : State) × IsLine s.language text line × Steps s line (Goes next) × Carried texts next t

pub record EndsSo (d : Dialect) (lines : List (List ℕ)) (o : Outcome) : Type 0 where
  pub before : List (List ℕ)
  pub rest : List (List ℕ)
  pub state : State
  pub is : lines ≡ before ++ rest
  pub carried : Carried before (new_state d) state
  pub ends : Ends (suc (length before)) state rest o

abbrev pub MeansFor : Dialect → List ℕ → Outcome → Type 0
MeansFor d script o = EndsSo d (lines_in script) o

abbrev pub Means : List ℕ → Outcome → Type 0
Means script o = MeansFor Syned script o

abbrev pub EndsAt : Dialect → List (List ℕ) → ℕ → Outcome → Type 0
EndsAt d lines number o = (e : EndsSo d lines o) × (number ≡ suc (length e.before))

abbrev pub StopsSo : Dialect → List (List ℕ) → ℕ → Stop → Type 0
StopsSo d lines number (stop.Bad fault) = EndsSo d lines (BadLine number)
StopsSo d lines number (stop.Refused reason) = EndsAt d lines number (Refused reason)
StopsSo d lines number stop.Memory = Unit {0}

abbrev pub StopsAtFor : Dialect → List ℕ → ℕ → Stop → Type 0
StopsAtFor d script number reason = StopsSo d (lines_in script) number reason

abbrev pub StopsAt : List ℕ → ℕ → Stop → Type 0
StopsAt script number reason = StopsAtFor Syned script number reason
