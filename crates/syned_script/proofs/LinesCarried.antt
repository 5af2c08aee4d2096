-- Lines that were carried out, and how they end.
use Rattle.std.proofs.Common.{◌≡◌, inl, inr, ℕ, suc, ◌+◌, ◌<◌, ◌≤◌, true, false, not, List, [], ◌∷◌, ◌++◌, length, take, drop, get_or, Option, Some, None, IfSome, IfNone, MatchOption, MatchBool, is_some, refl, sym, ◌∙◌, ap, subst, arith, add-one, length-take, ◌-◌}
use Rattle.std.specs.List.{list_all, position_or_len}
use Rattle.std.specs.Option.{IsSomeAnd}
use Rattle.std.proofs.lemmas.List.{take_all, take_more, append-nil}
use Rattle.std.proofs.lemmas.Bool.{true≢false}
use denote.Ref.{Bor}
use Rattle.syned_script.proofs.TextLines.{split-at, rest-texts}
use Rattle.script_lines.specs.declared.dialect.Dialect.{Dialect}
use Rattle.script_lines.specs.Line.{is_blank, IsLine}
use Rattle.script_lines.specs.ScriptLine as line
use Rattle.script_lines.specs.ScriptLine.{ScriptLine}
use Rattle.syntax_editor.specs.Editor.{plan_of}
use Rattle.syntax_editor.specs.Plan.{Edit}
use Rattle.syntax_editor.specs.TextPiece.{TextPiece}
use Rattle.tree_text.specs.KindNames.{KindName}
use Rattle.syned_script.specs.State.{State, new_state, asks, Editing, Goes, Refuses, IsBad, Steps}
use Rattle.syned_script.specs.Script.{Outcome, Refused, BadLine, AreEditsOf, CarriesOut, FinishGives, FinishEnds, LineEnds, Ends, Carried, EndsSo, EndsAt, StopsSo}
use Rattle.syned_script.specs.ShownValue.{outcome_of, showing_of}
use Rattle.syned_script.specs.declared.shown.Shown.{Shown}
use Rattle.syned_script.specs.inner.Run.{GivesEdits, texts_in, IsBadText, TextStops, Reached, EndIsGood, IsBadEnd, EndStops, FinishStops}
use Rattle.syned_script.specs.inner.Stops.{StopsFor}
use Rattle.syned_script.specs.declared.refusal.Refusal.{Refusal}
use Rattle.syned_script.specs.declared.fault.Fault.{Fault}
use Rattle.syned_script.specs.declared.stop.Stop.{Stop}
use Rattle.syned_script.specs.declared.stop.Stop.TheVariants as stop
use Rattle.syned_script.specs.declared.stop.Stopped.{Stopped}

-- ---- one more line
pub carried-push : (texts : List (List ℕ)) (text : List ℕ) (s t u : State) (line : ScriptLine) → Carried texts s t → IsLine t.language text line → Steps t line (Goes u) → Carried (texts ++ text ∷ []) s u
carried-push [] text s t u line h is steps = (line, u, subst (λ x. IsLine x.language text line) h is, subst (λ x. Steps x line (Goes u)) h steps, refl)
carried-push (x ∷ texts) text s t u line (first, next, first-is, first-steps, rest) is steps =
    (first, next, first-is, first-steps, carried-push texts text next t u line rest is steps)

-- ---- the line that ends it
line-bad : (n : ℕ) (s : State) (l : ScriptLine) (after : List (List ℕ)) → Steps s l IsBad → LineEnds n s l after (BadLine n)
line-bad n s line.Finish after h = absurd h
line-bad n s line.Blank after h = (refl, h)
line-bad n s (line.Kinds names) after h = (refl, h)
line-bad n s (line.Tree name root) after h = (refl, h)
line-bad n s (line.Edit name node) after h = (refl, h)
line-bad n s (line.Map parent input output) after h = (refl, h)
line-bad n s (line.Insert at payload) after h = (refl, h)
line-bad n s (line.Delete target) after h = (refl, h)
line-bad n s (line.Replace target payload) after h = (refl, h)
line-bad n s (line.Range first last payload) after h = (refl, h)
line-bad n s (line.Note word element) after h = (refl, h)
line-bad n s (line.Remove element separator) after h = (refl, h)
line-bad n s (line.Order order) after h = (refl, h)
line-bad n s (line.Show detail) after h = (refl, h)
line-bad n s (line.Spaced at payload) after h = (refl, h)
line-bad n s (line.Wrap node kind before wrapped) after h = (refl, h)
line-bad n s (line.Shifted shift name node) after h = (refl, h)

line-refused : (n : ℕ) (s : State) (l : ScriptLine) (after : List (List ℕ)) (r : Refusal) → Steps s l (Refuses r) → LineEnds n s l after (Refused r)
line-refused n s line.Finish after r h = absurd h
line-refused n s line.Blank after r h = h
line-refused n s (line.Kinds names) after r h = h
line-refused n s (line.Tree name root) after r h = h
line-refused n s (line.Edit name node) after r h = h
line-refused n s (line.Map parent input output) after r h = h
line-refused n s (line.Insert at payload) after r h = h
line-refused n s (line.Delete target) after r h = h
line-refused n s (line.Replace target payload) after r h = h
line-refused n s (line.Range first last payload) after r h = h
line-refused n s (line.Note word element) after r h = h
line-refused n s (line.Remove element separator) after r h = h
line-refused n s (line.Order order) after r h = h
line-refused n s (line.Show detail) after r h = h
line-refused n s (line.Spaced at payload) after r h = h
line-refused n s (line.Wrap node kind before wrapped) after r h = h
line-refused n s (line.Shifted shift name node) after r h = h

bad-ends : (n : ℕ) (s : State) (text : List ℕ) (after : List (List ℕ)) → IsBadText s text → Ends n s (text ∷ after) (BadLine n)
bad-ends n s text after (inl h) = inl (h, refl)
bad-ends n s text after (inr (l, is, bad)) = inr (l, is, line-bad n s l after bad)

-- ---- at a place of the lines
counted : (texts : List (List ℕ)) (i : ℕ) → i < length texts → suc (length (take i texts)) ≡ i + 1
counted texts i lt = let l = length-take i texts in grind arith

pub ends-at : (d : Dialect) (texts : List (List ℕ)) (i : ℕ) (text : List ℕ) (t : State) (o : Outcome) → i < length texts → text ≡ get_or texts i text → Carried (take i texts) (new_state d) t → Ends (i + 1) t (text ∷ drop (i + 1) texts) o → EndsAt d texts (i + 1) o
ends-at d texts i text t o lt is carried ends = (
  record {
    before = take i texts;
    rest = text ∷ drop (i + 1) texts;
    state = t;
    is = split-at texts i text lt is;
    carried = carried;
    ends = subst (λ n. Ends n t (text ∷ drop (i + 1) texts) o) (sym (counted texts i lt)) ends;
  },
  sym (counted texts i lt),
)

pub stops-at : (d : Dialect) (texts : List (List ℕ)) (i : ℕ) (text : List ℕ) (t : State) (s : Stop) → i < length texts → text ≡ get_or texts i text → Carried (take i texts) (new_state d) t → TextStops t text s → StopsSo d texts (i + 1) s
stops-at d texts i text t (stop.Bad f) lt is carried h = (ends-at d texts i text t (BadLine (i + 1)) lt is carried (bad-ends (i + 1) t text (drop (i + 1) texts) h)).0
stops-at d texts i text t (stop.Refused r) lt is carried (l, says, refuses) = ends-at d texts i text t (Refused r) lt is carried (inr (l, says, line-refused (i + 1) t l (drop (i + 1) texts) r refuses))
stops-at d texts i text t stop.Memory lt is carried h = tt

pub reached-at : (d : Dialect) (texts : List (List ℕ)) (i : ℕ) (text : List ℕ) (t u : State) → i < length texts → text ≡ get_or texts i text → Carried (take i texts) (new_state d) t → IsLine t.language text line.Finish → u ≡ t → Reached d texts (i + 1) u
reached-at d texts i text t u lt is carried finishes same = record {
  before = take i texts;
  finish = text;
  after = drop (i + 1) texts;
  is = split-at texts i text lt is;
  counted = sym (counted texts i lt);
  carried = subst (λ x. Carried (take i texts) (new_state d) x) (sym same) carried;
  finishes = finishes;
}

pub next-carried : (d : Dialect) (texts : List (List ℕ)) (i : ℕ) (text : List ℕ) (t u : State) → i < length texts → text ≡ get_or texts i text → Carried (take i texts) (new_state d) t → (l : ScriptLine) × IsLine t.language text l × Steps t l (Goes u) → Carried (take (i + 1) texts) (new_state d) u
next-carried d texts i text t u lt is carried (l, says, steps) =
    subst (λ x. Carried x (new_state d) u) (sym (take_more texts i text lt ∙ ap (λ x. take i texts ++ x ∷ []) (sym is))) (carried-push (take i texts) text (new_state d) t u l carried says steps)

pub no-finish : (d : Dialect) (texts : List (List ℕ)) (i : ℕ) (t : State) → length texts ≤ i → Carried (take i texts) (new_state d) t → EndsSo d texts (BadLine (length texts + 1))
no-finish d texts i t past carried = record {
  before = texts;
  rest = [];
  state = t;
  is = sym (append-nil texts);
  carried = subst (λ x. Carried x (new_state d) t) (take_all i texts past) carried;
  ends = ap BadLine (add-one (length texts));
}

-- ---- at `finish`
after-finish : (before : List (List ℕ)) (finish : List ℕ) (after : List (List ℕ)) → drop (suc (length before)) (before ++ finish ∷ after) ≡ after
after-finish [] finish after = refl
after-finish (x ∷ before) finish after = after-finish before finish after

what-follows : (d : Dialect) (texts : List (List ℕ)) (n : ℕ) (t : State) (r : Reached d texts n t) → drop n texts ≡ r.after
what-follows d texts n t r = ap (λ m. drop m texts) r.counted ∙ ap (drop (suc (length r.before))) r.is ∙ after-finish r.before r.finish r.after

finish-ends : (d : Dialect) (texts : List (List ℕ)) (n : ℕ) (t : State) (r : Reached d texts n t) (o : Outcome) → LineEnds n t line.Finish (drop n texts) o → EndsAt d texts n o
finish-ends d texts n t r o ends = (
  record {
    before = r.before;
    rest = r.finish ∷ r.after;
    state = t;
    is = r.is;
    carried = r.carried;
    ends = inr (line.Finish, r.finishes, subst (λ m. LineEnds m t line.Finish r.after o) r.counted (subst (λ a. LineEnds n t line.Finish a o) (what-follows d texts n t r) ends));
  },
  r.counted,
)

pub finished : (d : Dialect) (texts : List (List ℕ)) (n : ℕ) (t : State) (e : Editing) (o : Outcome) → Reached d texts n t → EndIsGood t (drop n texts) → t.editing ≡ Some e → FinishGives t e o → EndsAt d texts n o
finished d texts n t e o r good editing gives =
    let after = drop n texts in
    let ends : FinishEnds n t e after o = subst (λ b. MatchBool b (FinishGives t e o) (o ≡ BadLine (suc n + position_or_len (λ line. not (is_blank line)) after))) (sym good.1) gives in
    finish-ends d texts n t r o (subst (λ x. MatchOption x (o ≡ BadLine n) (λ e. FinishEnds n t e after o)) (sym editing) ends)

bad-end : (d : Dialect) (texts : List (List ℕ)) (n bad : ℕ) (t : State) → Reached d texts n t → IsBadEnd t (drop n texts) n bad → EndsSo d texts (BadLine bad)
bad-end d texts n bad t r (inl (none, at)) =
    let after = drop n texts in
    (finish-ends d texts n t r (BadLine bad) (subst (λ x. MatchOption x (BadLine bad ≡ BadLine n) (λ e. FinishEnds n t e after (BadLine bad))) (sym none) (ap BadLine at))).0
bad-end d texts n bad t r (inr (some, more, at)) =
    let after = drop n texts in
    (finish-ends d texts n t r (BadLine bad) (for-each t.editing some)).0
  where
    for-each : (o : Option Editing) → is_some o ≡ true → MatchOption o (BadLine bad ≡ BadLine n) (λ e. FinishEnds n t e (drop n texts) (BadLine bad))
    for-each None h = absurd (true≢false (sym h))
    for-each (Some e) h = subst (λ b. MatchBool b (FinishGives t e (BadLine bad)) (BadLine bad ≡ BadLine (suc n + position_or_len (λ line. not (is_blank line)) (drop n texts)))) (sym more) (ap BadLine at)

pub ends-badly : (d : Dialect) (texts : List (List ℕ)) (n : ℕ) (t : State) (s : Stopped) → Reached d texts n t → EndStops t (drop n texts) n s → StopsSo d texts s.line s.stop
ends-badly d texts n t s r h = by-stop s.stop h
  where
    by-stop : (x : Stop) → EndStops t (drop n texts) n (record { line = s.line; stop = x }) → StopsSo d texts s.line x
    by-stop (stop.Bad f) h = bad-end d texts n s.line t r h
    by-stop (stop.Refused f) h = absurd h
    by-stop stop.Memory h = tt

pub finish-refused : (d : Dialect) (texts : List (List ℕ)) (n : ℕ) (t : State) (s : Stop) → Reached d texts n t → EndIsGood t (drop n texts) → FinishStops t s → StopsSo d texts n s
finish-refused d texts n t (stop.Bad f) r good none = absurd (true≢false (sym good.0 ∙ ap is_some none))
finish-refused d texts n t (stop.Refused reason) r good (e, editing, refuses) = finished d texts n t e (Refused reason) r good editing refuses
finish-refused d texts n t stop.Memory r good h = tt

-- a line that is not blank, so many after `finish`
pub bad-after : (t : State) (lines : List (Bor (List ℕ))) (n i : ℕ) (s : Stopped) (x : Stop) (f : Fault) → s ≡ record { line = n + i + 1; stop = x } → x ≡ stop.Bad f → is_some t.editing ≡ true → list_all is_blank (texts_in (take (length lines - n) (drop n lines))) ≡ false → i ≡ position_or_len (λ line. not (is_blank line)) (texts_in (take (length lines - n) (drop n lines))) → EndStops t (drop n (texts_in lines)) n s
bad-after t lines n i s x f is bad some more first =
    let after = drop n (texts_in lines) in
    let here : i ≡ position_or_len (λ line. not (is_blank line)) after = first ∙ ap (position_or_len (λ line. not (is_blank line))) (rest-texts n lines) in
    let count : n + i + 1 ≡ suc n + position_or_len (λ line. not (is_blank line)) after = omega (arith, here) in
    let there : IsBadEnd t after n (n + i + 1) = inr (some, sym (ap (list_all is_blank) (rest-texts n lines)) ∙ more, count) in
    subst (EndStops t after n) (sym is) (subst (StopsFor (IsBadEnd t after n (n + i + 1)) (λ r. ⊥)) (sym bad) there)

-- what is given where `finish` made an edit
pub gives : (s : State) (e : Editing) (edit : Edit) (words : List (List ℕ)) (names : List KindName) (edits : Option (List TextPiece)) (shown : Option Shown) → CarriesOut e s.next edit → words ≡ s.words → names ≡ s.language.kinds → GivesEdits e.details (plan_of e.editor) edits → IfNone shown (asks e.details ≡ false) → IfSome shown (λ x. asks e.details ≡ true) → IfSome shown (λ x. showing_of x ≡ record { details = e.details; kinds = names; edits = edits }) → FinishGives s e (outcome_of edit words shown)
gives s e edit words names edits None carries same named given nothing some is = (carries, same, nothing)
gives s e edit words names edits (Some x) carries same named given nothing some is =
    let shows : Option (List TextPiece) → Type 0 = λ o. MatchBool e.details.edits (IsSomeAnd o (AreEditsOf (plan_of e.editor))) (o ≡ None) in
    (carries, same, record { asked = some; details = ap (λ y. y.details) is; kinds = ap (λ y. y.kinds) is ∙ named; edits = subst shows (sym (ap (λ y. y.edits) is)) given })
