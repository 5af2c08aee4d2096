-- In the dialect `Syned` nothing is shown besides.
--     IsPlain           a state of this dialect in which nothing is to be shown
--     plain-carried     lines leave it so
--     only-edited       what a script of it makes is an edit alone
use Rattle.std.proofs.Common.{◌≡◌, inl, inr, ℕ, suc, ◌==◌, ◌&&◌, ◌||◌, true, false, Bool, cond, is_some, List, [], ◌∷◌, Option, Some, None, IfSome, MatchOption, MatchBool, Result, Ok, Err, IfOk, refl, sym, ◌∙◌, ap, subst}
use Rattle.std.specs.List.{list_all}
use Rattle.std.specs.Option.{option_map_or}
use Rattle.std.proofs.lemmas.Bool.{true≢false}
use Rattle.syntax_editor.specs.Element.{Element}
use Rattle.syntax_editor.specs.RecordCall.{RecordCall, refusal}
use Rattle.syntax_editor.specs.Plan.{Edit}
use Rattle.syntax_editor.specs.TreeIds.{spent}
use Rattle.syntax_editor.specs.TreeError.TheVariants.{NoTreeNumber}
use Rattle.syntax_editor.specs.Editor.{has_parent, edited_root, new_editor}
use Rattle.script_lines.specs.Dialect.{is_wide}
use Rattle.script_lines.specs.declared.dialect.Dialect.TheVariants.{Syned}
use Rattle.script_lines.specs.Line.{is_blank, IsLine}
use Rattle.script_lines.specs.ScriptLine as line
use Rattle.script_lines.specs.ScriptLine.{ScriptLine}
use Rattle.syned_script.specs.declared.refusal.Refusal.TheVariants as refused
use Rattle.syned_script.specs.declared.carried_out.CarriedOut.{CarriedOut}
use Rattle.syned_script.specs.declared.stop.Stopped.{Stopped}
use Rattle.syned_script.specs.declared.shown.Shown.{Shown}
use Rattle.syned_script.specs.State.{State, new_state, no_details, with_root, asks, Editing, Step, Goes, Refuses, IsBad, Steps, PairStep, MapStep, root_refusal, edit_step, record_step, recorded_in, call_in, node_in, element_in, note_step, order_step}
use Rattle.syned_script.specs.Script.{Edited, Showed, Showing, BadLine, FinishGives, FinishEnds, LineEnds, Ends, Carried, MeansFor, Means}
use Rattle.syned_script.specs.ShownValue.{outcome_of, showing_of}

pub record IsPlain (s : State) : Type 0 where
  pub syned : s.language.dialect ≡ Syned
  pub none : IfSome s.editing (λ e. asks e.details ≡ false)

abbrev IsPlainStep : Step → Type 0
IsPlainStep (Goes t) = IsPlain t
IsPlainStep (Refuses r) = Unit {0}
IsPlainStep IsBad = Unit {0}

either : {A : Type 0} (P : A → Type 0) (b : Bool) (x y : A) → P x → P y → P (cond b x y)
either P true x y h g = h
either P false x y h g = g

if-there : {X A : Type 0} (P : A → Type 0) (f : X → A) (o : Option X) (d : A) → ((x : X) → o ≡ Some x → P (f x)) → P d → P (option_map_or f o d)
if-there P f None d h g = g
if-there P f (Some x) d h g = h x refl

is-none : (s : State) (e : Editing) → IsPlain s → s.editing ≡ Some e → asks e.details ≡ false
is-none s e p is = subst (λ o. IfSome o (λ e. asks e.details ≡ false)) is p.none

not-wide : {A : Type 0} (s : State) → is_wide s.language.dialect ≡ true → IsPlain s → A
not-wide s wide p = absurd (true≢false (sym wide ∙ ap is_wide p.syned))

-- ---- one line
abbrev opened : State → List ℕ → Element → State
opened s name node = record {
  language = s.language;
  next = cond (has_parent node) (suc s.next) s.next;
  roots = with_root name (edited_root s.next node) s.roots;
  words = s.words;
  editing = Some (record { editor = new_editor s.next node; order = None; details = no_details });
}

plain-edit : (s : State) (name : List ℕ) (node : Option Element) → IsPlain s → IsPlainStep (edit_step s name node)
plain-edit s name None p = tt
plain-edit s name (Some node) p =
    let begun : Step = cond (has_parent node && s.next == spent) (Refuses (refused.Tree NoTreeNumber)) (Goes (opened s name node)) in
    either IsPlainStep (is_some s.editing || is_some (s.roots name)) IsBad begun tt
    (either IsPlainStep (has_parent node && s.next == spent) (Refuses (refused.Tree NoTreeNumber)) (Goes (opened s name node)) tt (record { syned = p.syned; none = refl }))

plain-call : (s : State) (call : Option RecordCall) → IsPlain s → IsPlainStep (recorded_in s call)
plain-call s None p = tt
plain-call s (Some call) p = if-there IsPlainStep (record_step s call) s.editing IsBad (λ e is. if-there IsPlainStep (λ r. Refuses (refused.Record r)) (refusal e.editor.root call) _ (λ r _. tt) (record { syned = p.syned; none = is-none s e p is })) tt

plain-pair : (s : State) (parent : Element) (pair : Element × Element) (e : Editing) (step : Step) → PairStep s parent pair e step → IsPlain s → asks e.details ≡ false → IsPlainStep step
plain-pair s parent pair e (Goes t) h p none = subst IsPlain (sym h.1.2) (record { syned = p.syned; none = none })
plain-pair s parent pair e (Refuses r) h p none = tt
plain-pair s parent pair e IsBad h p none = tt

plain-editing : (s : State) (parent : Element) (pair : Element × Element) (step : Step) (o : Option Editing) → s.editing ≡ o → MatchOption o (step ≡ IsBad) (λ e. PairStep s parent pair e step) → IsPlain s → IsPlainStep step
plain-editing s parent pair step None is h p = subst IsPlainStep (sym h) tt
plain-editing s parent pair step (Some e) is h p = plain-pair s parent pair e step h p (is-none s e p is)

plain-map : (s : State) (parent input output : Option Element) (step : Step) → MapStep s parent input output step → IsPlain s → IsPlainStep step
plain-map s None input output step h p = subst IsPlainStep (sym h) tt
plain-map s (Some parent) None output step h p = subst IsPlainStep (sym h) tt
plain-map s (Some parent) (Some input) None step h p = subst IsPlainStep (sym h) tt
plain-map s (Some parent) (Some input) (Some output) step h p = plain-editing s parent (input, output) step s.editing refl h p

plain-note : (s : State) (word : List ℕ) (r : line.Ref) → IsPlain s → IsPlainStep (note_step s word (element_in s.roots r))
plain-note s word r p = elim (element_in s.roots r) as (λ o. IsPlainStep (note_step s word o)) [
  | None ↦ tt
  | Some e ↦ if-there IsPlainStep _ s.editing IsBad (λ editing is. record { syned = p.syned; none = is-none s editing p is }) tt
]

plain-order : (s : State) (order : List ℕ) → IsPlain s → IsPlainStep (order_step s order)
plain-order s order p = if-there IsPlainStep _ s.editing IsBad (λ e is. either IsPlainStep (is_some e.order) IsBad (Goes (record s { editing = Some (record e { order = Some order }) })) tt (record { syned = p.syned; none = is-none s e p is })) tt

plain-step : (s : State) (text : List ℕ) (l : ScriptLine) (step : Step) → IsLine s.language text l → Steps s l step → IsPlain s → IsPlainStep step
plain-step s text line.Blank step is h p = subst IsPlainStep (sym h) p
plain-step s text (line.Kinds names) step is h p = not-wide s is.0 p
plain-step s text (line.Tree name root) step is h p =
    subst IsPlainStep (sym h) (either IsPlainStep _ IsBad _ tt (if-there IsPlainStep (λ e. Refuses (refused.Tree e)) (root_refusal s.next root) _ (λ e _. tt) (record { syned = p.syned; none = p.none })))
plain-step s text (line.Edit name node) step is h p = subst IsPlainStep (sym h) (plain-edit s name (node_in s.roots node) p)
plain-step s text (line.Map parent input output) step is h p = plain-map s (node_in s.roots parent) (node_in s.roots input) (node_in s.roots output) step h p
plain-step s text (line.Insert at payload) step is h p = subst IsPlainStep (sym h) (plain-call s (call_in s.roots (line.Insert at payload)) p)
plain-step s text (line.Delete target) step is h p = subst IsPlainStep (sym h) (plain-call s (call_in s.roots (line.Delete target)) p)
plain-step s text (line.Replace target payload) step is h p = subst IsPlainStep (sym h) (plain-call s (call_in s.roots (line.Replace target payload)) p)
plain-step s text (line.Range first last payload) step is h p = subst IsPlainStep (sym h) (plain-call s (call_in s.roots (line.Range first last payload)) p)
plain-step s text (line.Remove element separator) step is h p = subst IsPlainStep (sym h) (plain-call s (call_in s.roots (line.Remove element separator)) p)
plain-step s text (line.Note word element) step is h p = subst IsPlainStep (sym h) (plain-note s word element p)
plain-step s text (line.Order order) step is h p = subst IsPlainStep (sym h) (plain-order s order p)
plain-step s text (line.Show detail) step is h p = not-wide s is.0 p
plain-step s text (line.Spaced at payload) step is h p = not-wide s is.3 p
plain-step s text (line.Wrap node kind before wrapped) step is h p = not-wide s is.4 p
plain-step s text (line.Shifted shift name node) step is h p = not-wide s is.1 p
plain-step s text line.Finish step is h p = absurd h

-- ---- all lines
pub plain-carried : (texts : List (List ℕ)) (s t : State) → Carried texts s t → IsPlain s → IsPlain t
plain-carried [] s t h p = subst IsPlain (sym h) p
plain-carried (text ∷ texts) s t (l, next, is, steps, rest) p = plain-carried texts next t rest (plain-step s text l (Goes next) is steps p)

plain-gives : (s : State) (e : Editing) (edit : Edit) (words : List (List ℕ)) (shown : Showing) → FinishGives s e (Showed edit words shown) → asks e.details ≡ false → ⊥
plain-gives s e edit words shown h none = true≢false (sym h.2.asked ∙ none)

plain-end : (n : ℕ) (s : State) (after : List (List ℕ)) (edit : Edit) (words : List (List ℕ)) (shown : Showing) (o : Option Editing) → s.editing ≡ o → IsPlain s → MatchOption o (Showed edit words shown ≡ BadLine n) (λ e. FinishEnds n s e after (Showed edit words shown)) → ⊥
plain-end n s after edit words shown None is p h = absurd (cc)
plain-end n s after edit words shown (Some e) is p h = by-blank _ (list_all is_blank after) h
  where
    by-blank : (m : ℕ) (b : Bool) → MatchBool b (FinishGives s e (Showed edit words shown)) (Showed edit words shown ≡ BadLine m) → ⊥
    by-blank m true h = plain-gives s e edit words shown h (is-none s e p is)
    by-blank m false h = absurd (cc)

plain-line : (n : ℕ) (s : State) (l : ScriptLine) (after : List (List ℕ)) (edit : Edit) (words : List (List ℕ)) (shown : Showing) → IsPlain s → LineEnds n s l after (Showed edit words shown) → ⊥
plain-line n s line.Finish after edit words shown p h = plain-end n s after edit words shown s.editing refl p h
plain-line n s line.Blank after edit words shown p h = h
plain-line n s (line.Kinds names) after edit words shown p h = h
plain-line n s (line.Tree name root) after edit words shown p h = h
plain-line n s (line.Edit name node) after edit words shown p h = h
plain-line n s (line.Map parent input output) after edit words shown p h = h
plain-line n s (line.Insert at payload) after edit words shown p h = h
plain-line n s (line.Delete target) after edit words shown p h = h
plain-line n s (line.Replace target payload) after edit words shown p h = h
plain-line n s (line.Range first last payload) after edit words shown p h = h
plain-line n s (line.Note word element) after edit words shown p h = h
plain-line n s (line.Remove element separator) after edit words shown p h = h
plain-line n s (line.Order order) after edit words shown p h = h
plain-line n s (line.Show detail) after edit words shown p h = h
plain-line n s (line.Spaced at payload) after edit words shown p h = h
plain-line n s (line.Wrap node kind before wrapped) after edit words shown p h = h
plain-line n s (line.Shifted shift name node) after edit words shown p h = h

plain-ends : (n : ℕ) (s : State) (texts : List (List ℕ)) (edit : Edit) (words : List (List ℕ)) (shown : Showing) → IsPlain s → Ends n s texts (Showed edit words shown) → ⊥
plain-ends n s [] edit words shown p h = absurd (cc)
plain-ends n s (text ∷ after) edit words shown p (inl h) = let bad : Showed edit words shown ≡ BadLine n = h.1 in absurd (cc)
plain-ends n s (text ∷ after) edit words shown p (inr h) = plain-line n s h.0 after edit words shown p h.2

nothing-shown : (script : List ℕ) (edit : Edit) (words : List (List ℕ)) (shown : Showing) → MeansFor Syned script (Showed edit words shown) → ⊥
nothing-shown script edit words shown m =
    plain-ends _ m.state m.rest edit words shown (plain-carried m.before (new_state Syned) m.state m.carried (record { syned = refl; none = tt })) m.ends

one-edited : (script : List ℕ) (edit : Edit) (words : List (List ℕ)) (shown : Option Shown) → MeansFor Syned script (outcome_of edit words shown) → Means script (Edited edit words) × (shown ≡ None)
one-edited script edit words None m = (m, refl)
one-edited script edit words (Some s) m = absurd (nothing-shown script edit words (showing_of s) m)

pub only-edited : (script : List ℕ) (r : Result CarriedOut Stopped) → IfOk r (λ done. MeansFor Syned script (outcome_of done.edit done.words done.shown)) → IfOk r (λ done. Means script (Edited done.edit done.words)) × IfOk r (λ done. done.shown ≡ None)
only-edited script (Ok done) m = one-edited script done.edit done.words done.shown m
only-edited script (Err e) m = (tt, tt)
