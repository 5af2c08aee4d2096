-- What the functions give that carry out a line, and what a stop says there.
--     StopsFor            one thing if the line is bad, another of the refusal if its call is refused, nothing if memory ran out
--     NotThere            the line is bad, and this is why: something that it names is not there
--     ShiftStops          why no root is made of this tree under a number
--     IsRecorded          the line has a call, and an editor made it
--     IsRecordRefusal     its call is refused so
--     RecordStops         why it was not made
--     RecordGives         what the function gives that makes it
--     LineStops           why a line was not carried out
--     LineGives           what the function gives that carries it out
use Rattle.std.specs.Prelude.{◌≡◌, ℕ, Option, Some, None, Result, Ok, Err}
use Rattle.syntax_editor.specs.Tree.{SyntaxTree}
use Rattle.syntax_editor.specs.TreeError.{TreeError}
use Rattle.syntax_editor.specs.RecordCall.{RecordCall, refusal}
use Rattle.syntax_editor.specs.declared.error.RecordError.{RecordError}
use Rattle.syntax_editor.specs.Editor.{Editor, Takes, Records}
use Rattle.script_lines.specs.ScriptLine.{ScriptLine}
use Rattle.syned_script.specs.State.{State, Goes, Refuses, IsBad, Steps, root_refusal}
use Rattle.syned_script.specs.declared.refusal.Refusal.{Refusal}
use Rattle.syned_script.specs.declared.refusal.Refusal.TheVariants.{Record, Tree}
use Rattle.syned_script.specs.declared.stop.Stop.{Stop}
use Rattle.syned_script.specs.declared.stop.Stop.TheVariants.{Bad, Refused, Memory}

abbrev pub StopsFor : Type 0 → (Refusal → Type 0) → Stop → Type 0
StopsFor P Q (Bad fault) = P
StopsFor P Q (Refused r) = Q r
StopsFor P Q Memory = Unit {0}

abbrev pub NotThere : {A : Type 0} → Option A → Stop → Type 0
NotThere o stop = StopsFor (o ≡ None) (λ r. ⊥) stop

abbrev pub ShiftStops : ℕ → SyntaxTree → Stop → Type 0
ShiftStops next t stop = StopsFor ⊥ (λ r. (e : TreeError) × (r ≡ Tree e) × (root_refusal next t ≡ Some e)) stop

abbrev pub IsRecorded : Option RecordCall → Editor → Editor → Type 0
IsRecorded o before after = (call : RecordCall) × (o ≡ Some call) × Takes before call × Records call before after

abbrev pub IsRecordRefusal : Option RecordCall → Editor → Refusal → Type 0
IsRecordRefusal o editor r =
    (call : RecordCall) × (e : RecordError) × (o ≡ Some call) × (r ≡ Record e) × (refusal editor.root call ≡ Some e)

abbrev pub RecordStops : Option RecordCall → Editor → Stop → Type 0
RecordStops o editor stop = StopsFor (o ≡ None) (IsRecordRefusal o editor) stop

abbrev pub RecordGives : Option RecordCall → Editor → Result (Unit {0}) Stop → Editor → Type 0
RecordGives o before (Ok done) after = IsRecorded o before after
RecordGives o before (Err stop) after = RecordStops o before stop

abbrev pub LineStops : State → ScriptLine → Stop → Type 0
LineStops s line stop = StopsFor (Steps s line IsBad) (λ r. Steps s line (Refuses r)) stop

abbrev pub LineGives : State → ScriptLine → Result (Unit {0}) Stop → State → Type 0
LineGives s line (Ok done) t = Steps s line (Goes t)
LineGives s line (Err stop) t = LineStops s line stop
