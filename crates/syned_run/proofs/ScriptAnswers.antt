-- Answers to scripts, by tests that compute.
--     is_text               a script that is text, and not too long: whether it is text is asked only where it is not ASCII
--     state_after           the state after some lines
--     before_of, rest_of    as many lines of a script, and those from there on
--     begins_with           a script begins with these lines, and they are carried out
--     answered              a script that ends so has this answer
--     edit_after            the edit that is made where the changes of a state are carried out
--     edited_with           a script whose changes are carried out, where its places and its order are given
--     edited                the same of one without them
--     refused               a script with a line that is refused
--     not_carried_out       a script whose changes are not carried out
--     bad                   a script with a line that is bad for what it says
--     unread                a script with a line that says nothing
--     unfinished            a script without a `finish`
--     too_early             a script with a `finish` before an edit
--     too_late              a script with a line after its `finish`
use Rattle.std.specs.Prelude.{◌≡◌, ℕ, suc, Bool, true, false, not, ◌&&◌, ◌||◌, List, [], ◌∷◌, length, take, drop, Option, Some, None, IfSome, MatchOption, MatchBool, is_some, is_none, unwrap_or, ◌+◌, bytes_eq, nat_le, nat_lt, IsUtf8, IsAscii, refl}
use Rattle.std.specs.List.{list_all, position_or_len}
use Rattle.std.specs.Str.{is_utf8}
use Rattle.std.proofs.Common.{sym, subst, arith, inl, inr}
use Rattle.std.proofs.lemmas.Bool.{leb-true, ltb-true, false≢true}
use Rattle.std.proofs.lemmas.List.{take-append-drop}
use Rattle.std.proofs.lemmas.Slice.Eq.{bytes_eq-Decides}
use Rattle.std.proofs.lemmas.Str.{IsUtf8-from_ascii, IsUtf8-from_is_utf8}
use Rattle.std.proofs.lemmas.Str.Ascii.{IsAscii-nil, IsAscii-cons}
use Rattle.cst_core.specs.Path.{Path}
use Rattle.cst_core.specs.Tree.{Token, text_length}
use Rattle.syntax_editor.specs.Green.{length_limit}
use Rattle.syntax_editor.specs.NewTree.{OriginTree, new_tree, plain}
use Rattle.syntax_editor.specs.Places.{ArePlaces}
use Rattle.syntax_editor.specs.Editor.{editor_of, plan_of}
use Rattle.syntax_editor.specs.Plan.{Plan}
use Rattle.syntax_editor.specs.Schedule.{IsAllowed}
use Rattle.script_lines.specs.ScriptLine as line
use Rattle.script_lines.specs.ScriptLine.{ScriptLine}
use Rattle.script_lines.specs.Line.{is_blank}
use Rattle.syned_script.specs.declared.refusal.Refusal.{Refusal}
use Rattle.syned_script.specs.State.{State, new_state, no_details, asks, Editing, Refuses, IsBad}
use Rattle.syned_script.specs.Script.{Outcome, Edited, Refused, BadLine, Ends, LineEnds, FinishEnds, FinishGives, EndRefuses, lines_in}
use Rattle.script_lines.specs.Dialect.{bytes_in}
use Rattle.script_lines.specs.Line.{IsLine}
use Rattle.script_lines.specs.declared.dialect.Dialect.TheVariants.{Syned}
use Rattle.syned_run.specs.Answer.{IsNoScript, printed, status_of}
use Rattle.syned_run.specs.inner.SynedAnswer.{IsAnswer}
use Rattle.syned_run.proofs.ScriptLines.{both, reads, says}
use Rattle.syned_run.proofs.ScriptFaults.{says_nothing, nothing-said}
use Rattle.syned_run.proofs.ScriptRuns.{not-true, step, steps, run, all_read, runs, is_syned, syned-is, stays-syned}
use Rattle.syned_run.proofs.ScriptEdits.{the_one, is_one, edit_of, can_make, makes, is_plan, plans, unowned, owns_nothing, no_places}

-- ---- scripts
abbrev pub is_text : List ℕ → Bool
is_text script = (list_all (λ b. nat_lt b 128) script || is_utf8 script) && nat_le (length script) (bytes_in Syned)

ascii : (bs : List ℕ) → list_all (λ b. nat_lt b 128) bs ≡ true → IsAscii bs
ascii [] h = IsAscii-nil
ascii (b ∷ bs) h =
    let parts = both (nat_lt b 128) (list_all (λ c. nat_lt c 128) bs) h in
    IsAscii-cons b bs (ltb-true b 128 parts.0) (ascii bs parts.1)

text-is : (script : List ℕ) (b : Bool) → list_all (λ c. nat_lt c 128) script ≡ b → (b || is_utf8 script) ≡ true → IsUtf8 script
text-is script true is h = IsUtf8-from_ascii script (ascii script is)
text-is script false is h = IsUtf8-from_is_utf8 script h

pub script-is : (script : List ℕ) → is_text script ≡ true → IsNoScript Syned script → ⊥
script-is script h none =
    let parts = both (list_all (λ b. nat_lt b 128) script || is_utf8 script) (nat_le (length script) (bytes_in Syned)) h in
    elim none [
      | inl long ↦ absurd (omega (arith, long, leb-true (length script) (bytes_in Syned) parts.1))
      | inr other ↦ other (text-is script (list_all (λ b. nat_lt b 128) script) refl parts.0)
    ]

-- ---- a state and what comes of it
abbrev pub state_after : List ScriptLine → State
state_after ls = unwrap_or (run (new_state Syned) ls) (new_state Syned)

ran : (o : Option State) (t : State) → is_some o ≡ true → o ≡ Some (unwrap_or o t)
ran None t h = absurd (false≢true h)
ran (Some s) t h = refl

-- lines up to one, and from it on
abbrev pub before_of : List ℕ → List ScriptLine → List (List ℕ)
before_of script ls = take (length ls) (lines_in script)

abbrev pub rest_of : List ℕ → List ScriptLine → List (List ℕ)
rest_of script ls = drop (length ls) (lines_in script)

-- these lines are there, and are carried out
abbrev pub begins_with : List ℕ → List ScriptLine → Bool
begins_with script ls = is_text script && all_read (before_of script ls) ls && is_some (run (new_state Syned) ls)

-- then its state is one of the dialect
plain-after : (script : List ℕ) (ls : List ScriptLine) → begins_with script ls ≡ true → is_syned (state_after ls).language ≡ true
plain-after script ls begins =
    let parts = both (is_text script && all_read (before_of script ls) ls) (is_some (run (new_state Syned) ls)) begins in
    stays-syned ls (new_state Syned) (state_after ls) refl (ran (run (new_state Syned) ls) (new_state Syned) parts.1)

-- an answer, where a script ends so
abbrev pub answered : Outcome → List ℕ → Bool
answered o answer = bytes_eq answer (printed o)

pub answers : (script answer : List ℕ) (ls : List ScriptLine) (o : Outcome) → begins_with script ls ≡ true → Ends (suc (length (before_of script ls))) (state_after ls) (rest_of script ls) o → answered o answer ≡ true → IsAnswer script (status_of o) answer
answers script answer ls o begins ends same =
    let parts = both (is_text script && all_read (before_of script ls) ls) (is_some (run (new_state Syned) ls)) begins in
    let front = both (is_text script) (all_read (before_of script ls) ls) parts.0 in
    inr (
      script-is script front.0,
      (
        o,
        record {
          before = before_of script ls;
          rest = rest_of script ls;
          state = state_after ls;
          is = sym (take-append-drop (length ls) (lines_in script));
          carried = runs (before_of script ls) ls (new_state Syned) (state_after ls) refl front.1 (ran (run (new_state Syned) ls) (new_state Syned) parts.1);
          ends = ends;
        },
        refl,
        (bytes_eq-Decides answer (printed o)).0 same,
      ),
    )

-- ---- the line that ends a script
abbrev first_reads : List (List ℕ) → ScriptLine → Bool
first_reads [] l = false
first_reads (text ∷ after) l = reads text l

abbrev behind : List (List ℕ) → List (List ℕ)
behind [] = []
behind (text ∷ after) = after

ends-at : (n : ℕ) (s : State) (l : ScriptLine) (rest : List (List ℕ)) (o : Outcome) → is_syned s.language ≡ true → first_reads rest l ≡ true → LineEnds n s l (behind rest) o → Ends n s rest o
ends-at n s l [] o plain reads_it ends = absurd (false≢true reads_it)
ends-at n s l (text ∷ after) o plain reads_it ends =
    inr (l, subst (λ g. IsLine g text l) (sym (syned-is s.language plain)) (says text l reads_it), ends)

refuses : (n : ℕ) (s : State) (l : ScriptLine) (after : List (List ℕ)) (r : Refusal) → step s l ≡ Some (Refuses r) → LineEnds n s l after (Refused r)
refuses n s line.Finish after r is = absurd (cc)
refuses n s l after r is = steps s l (Refuses r) is

is_bad : (n : ℕ) (s : State) (l : ScriptLine) (after : List (List ℕ)) → step s l ≡ Some IsBad → LineEnds n s l after (BadLine n)
is_bad n s line.Finish after is = absurd (cc)
is_bad n s l after is = (refl, steps s l IsBad is)

abbrev pub number_of : List ℕ → List ScriptLine → ℕ
number_of script ls = suc (length (before_of script ls))

pub refused : (script answer : List ℕ) (ls : List ScriptLine) (l : ScriptLine) (r : Refusal) → begins_with script ls ≡ true → first_reads (rest_of script ls) l ≡ true → step (state_after ls) l ≡ Some (Refuses r) → answered (Refused r) answer ≡ true → IsAnswer script 1 answer
refused script answer ls l r begins reads_it refuses_it same =
    answers script answer ls (Refused r) begins (ends-at (number_of script ls) (state_after ls) l (rest_of script ls) (Refused r) (plain-after script ls begins) reads_it (refuses _ (state_after ls) l (behind (rest_of script ls)) r refuses_it)) same

pub bad : (script answer : List ℕ) (ls : List ScriptLine) (l : ScriptLine) → begins_with script ls ≡ true → first_reads (rest_of script ls) l ≡ true → step (state_after ls) l ≡ Some IsBad → answered (BadLine (number_of script ls)) answer ≡ true → IsAnswer script 2 answer
bad script answer ls l begins reads_it is same =
    answers script answer ls (BadLine (number_of script ls)) begins (ends-at (number_of script ls) (state_after ls) l (rest_of script ls) (BadLine (number_of script ls)) (plain-after script ls begins) reads_it (is_bad (number_of script ls) (state_after ls) l (behind (rest_of script ls)) is)) same

-- ---- lines that say nothing
abbrev first_says_nothing : List (List ℕ) → Bool
first_says_nothing [] = false
first_says_nothing (text ∷ after) = says_nothing text

not-read : (n : ℕ) (s : State) (rest : List (List ℕ)) → is_syned s.language ≡ true → first_says_nothing rest ≡ true → Ends n s rest (BadLine n)
not-read n s [] plain nothing = absurd (false≢true nothing)
not-read n s (text ∷ after) plain nothing =
    inl (λ l said. nothing-said text nothing l (subst (λ g. IsLine g text l) (syned-is s.language plain) said), refl)

pub unread : (script answer : List ℕ) (ls : List ScriptLine) → begins_with script ls ≡ true → first_says_nothing (rest_of script ls) ≡ true → answered (BadLine (number_of script ls)) answer ≡ true → IsAnswer script 2 answer
unread script answer ls begins nothing same =
    answers script answer ls (BadLine (number_of script ls)) begins (not-read (number_of script ls) (state_after ls) (rest_of script ls) (plain-after script ls begins) nothing) same

pub unfinished : (script answer : List ℕ) (ls : List ScriptLine) → begins_with script ls ≡ true → rest_of script ls ≡ [] → answered (BadLine (number_of script ls)) answer ≡ true → IsAnswer script 2 answer
unfinished script answer ls begins none same =
    answers script answer ls (BadLine (number_of script ls)) begins (subst (λ rest. Ends (number_of script ls) (state_after ls) rest (BadLine (number_of script ls))) (sym none) refl) same

-- ---- `finish`
pub too_early : (script answer : List ℕ) (ls : List ScriptLine) → begins_with script ls ≡ true → first_reads (rest_of script ls) line.Finish ≡ true → (state_after ls).editing ≡ None → answered (BadLine (number_of script ls)) answer ≡ true → IsAnswer script 2 answer
too_early script answer ls begins reads_it none same =
    let n = number_of script ls in
    let ends : LineEnds n (state_after ls) line.Finish (behind (rest_of script ls)) (BadLine n) =
    subst (λ e. MatchOption e (BadLine n ≡ BadLine n) (λ e. FinishEnds n (state_after ls) e (behind (rest_of script ls)) (BadLine n))) (sym none) refl in
    answers script answer ls (BadLine n) begins (ends-at n (state_after ls) line.Finish (rest_of script ls) (BadLine n) (plain-after script ls begins) reads_it ends) same

-- an editing, where there is one
abbrev no_editing : Editing
no_editing = record { editor = editor_of (record { number = 0; root = Token 0 []; path = [] }) [] [] None; order = None; details = no_details }

abbrev pub editing_after : List ScriptLine → Editing
editing_after ls = unwrap_or (state_after ls).editing no_editing

abbrev pub begun : List ScriptLine → Bool
begun ls = is_some (state_after ls).editing

there-is : (o : Option Editing) (d : Editing) → is_some o ≡ true → o ≡ Some (unwrap_or o d)
there-is None d h = absurd (false≢true h)
there-is (Some e) d h = refl

-- the line of the first one after `finish` that is not blank
abbrev pub late_number : List ℕ → List ScriptLine → ℕ
late_number script ls = suc (number_of script ls) + position_or_len (λ text. not (is_blank text)) (behind (rest_of script ls))

finish-ends : (n : ℕ) (s : State) (ls : List ScriptLine) (after : List (List ℕ)) (o : Outcome) → s.editing ≡ Some (editing_after ls) → FinishEnds n s (editing_after ls) after o → LineEnds n s line.Finish after o
finish-ends n s ls after o there ends = subst (λ e. MatchOption e (o ≡ BadLine n) (λ e. FinishEnds n s e after o)) (sym there) ends

pub too_late : (script answer : List ℕ) (ls : List ScriptLine) → begins_with script ls ≡ true → first_reads (rest_of script ls) line.Finish ≡ true → begun ls ≡ true → list_all is_blank (behind (rest_of script ls)) ≡ false → answered (BadLine (late_number script ls)) answer ≡ true → IsAnswer script 2 answer
too_late script answer ls begins reads_it is_begun late same =
    let n = number_of script ls in
    let o : Outcome = BadLine (late_number script ls) in
    let ends : FinishEnds n (state_after ls) (editing_after ls) (behind (rest_of script ls)) o =
    subst (λ b. MatchBool b (FinishGives (state_after ls) (editing_after ls) o) (o ≡ BadLine (late_number script ls))) (sym late) refl in
    answers script answer ls o begins (ends-at n (state_after ls) line.Finish (rest_of script ls) o (plain-after script ls begins) reads_it (finish-ends n (state_after ls) ls (behind (rest_of script ls)) o (there-is (state_after ls).editing no_editing is_begun) ends)) same

-- `finish` is the next line, and nothing follows it
abbrev pub finishes : List ℕ → List ScriptLine → Bool
finishes script ls = first_reads (rest_of script ls) line.Finish && list_all is_blank (behind (rest_of script ls)) && begun ls

finished : (script answer : List ℕ) (ls : List ScriptLine) (o : Outcome) → begins_with script ls ≡ true → finishes script ls ≡ true → FinishGives (state_after ls) (editing_after ls) o → answered o answer ≡ true → IsAnswer script (status_of o) answer
finished script answer ls o begins finish gives same =
    let n = number_of script ls in
    let blank = list_all is_blank (behind (rest_of script ls)) in
    let parts = both (first_reads (rest_of script ls) line.Finish && blank) (begun ls) finish in
    let front = both (first_reads (rest_of script ls) line.Finish) blank parts.0 in
    let ends : FinishEnds n (state_after ls) (editing_after ls) (behind (rest_of script ls)) o =
    subst (λ b. MatchBool b (FinishGives (state_after ls) (editing_after ls) o) (o ≡ BadLine (late_number script ls))) (sym front.1) gives in
    answers script answer ls o begins (ends-at n (state_after ls) line.Finish (rest_of script ls) o (plain-after script ls begins) front.0 (finish-ends n (state_after ls) ls (behind (rest_of script ls)) o (there-is (state_after ls).editing no_editing parts.1) ends)) same

abbrev pub plan_after : List ScriptLine → Plan
plan_after ls = plan_of (editing_after ls).editor

abbrev pub made_after : (ℕ → Path) → List ScriptLine → OriginTree
made_after places ls = the_one (new_tree (plan_after ls).changes places (plan_after ls).root)

abbrev pub edit_after : (ℕ → Path) → List ScriptLine → Outcome
edit_after places ls = Edited (edit_of (plan_after ls) (state_after ls).next (made_after places ls)) (state_after ls).words

abbrev is_short : OriginTree → Bool
is_short made = nat_lt (text_length (plain made)) length_limit

abbrev pub can_carry_out : (ℕ → Path) → List ScriptLine → Bool
can_carry_out places ls =
    is_plan (plan_after ls) && is_one (new_tree (plan_after ls).changes places (plan_after ls).root) && can_make (plan_after ls) (state_after ls).next (made_after places ls)
    && is_short (made_after places ls) && not (asks (editing_after ls).details)

abbrev pub HasOrder : List ScriptLine → Type 0
HasOrder ls = IfSome (editing_after ls).order (IsAllowed (editing_after ls).editor.changes)

pub edited_with : (script answer : List ℕ) (ls : List ScriptLine) (places : ℕ → Path) → ArePlaces (plan_after ls).mapping (plan_after ls).changes places → HasOrder ls → begins_with script ls ≡ true → finishes script ls ≡ true → can_carry_out places ls ≡ true → answered (edit_after places ls) answer ≡ true → IsAnswer script 0 answer
edited_with script answer ls places are allowed begins finish can same =
    let p = plan_after ls in
    let one = is_one (new_tree p.changes places p.root) in
    let make = can_make p (state_after ls).next (made_after places ls) in
    let short = ltb-true (text_length (plain (made_after places ls))) length_limit in
    let all = both (is_plan p && one && make && is_short (made_after places ls)) (not (asks (editing_after ls).details)) can in
    let whole = both (is_plan p && one && make) (is_short (made_after places ls)) all.0 in
    let parts = both (is_plan p && one) make whole.0 in
    let front = both (is_plan p) one parts.0 in
    finished script answer ls (edit_after places ls) begins finish ((plans p places are front.0, allowed, makes p (state_after ls).next places are front.1 parts.1, short whole.1), refl, not-true (asks (editing_after ls).details) all.1) same

pub no-order : (ls : List ScriptLine) → is_none (editing_after ls).order ≡ true → HasOrder ls
no-order ls h = elsewhere (editing_after ls).order h where
  elsewhere : (o : Option (List ℕ)) → is_none o ≡ true → IfSome o (IsAllowed (editing_after ls).editor.changes)
  elsewhere None h = tt
  elsewhere (Some order) h = absurd (false≢true h)

-- no change owns another one, and there is no order
abbrev pub is_simple : List ScriptLine → Bool
is_simple ls = owns_nothing (plan_after ls).changes && is_none (editing_after ls).order

pub edited : (script answer : List ℕ) (ls : List ScriptLine) → begins_with script ls ≡ true → finishes script ls ≡ true → is_simple ls ≡ true → can_carry_out no_places ls ≡ true → answered (edit_after no_places ls) answer ≡ true → IsAnswer script 0 answer
edited script answer ls begins finish simple can same =
    let parts = both (owns_nothing (plan_after ls).changes) (is_none (editing_after ls).order) simple in
    edited_with script answer ls no_places (unowned (plan_after ls).mapping (plan_after ls).changes parts.0) (no-order ls parts.1) begins finish can same

pub not_carried_out : (script answer : List ℕ) (ls : List ScriptLine) (r : Refusal) → EndRefuses (editing_after ls).editor (editing_after ls).order (state_after ls).next r → begins_with script ls ≡ true → finishes script ls ≡ true → answered (Refused r) answer ≡ true → IsAnswer script 1 answer
not_carried_out script answer ls r refuses_it begins finish same = finished script answer ls (Refused r) begins finish refuses_it same
