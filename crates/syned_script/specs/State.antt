-- What the lines of a script have made so far, and what one more line does.
-- A script is carried out line by line. What the lines made so far is a state, and a line does one of three things with
-- it: the script goes on in another state, the call of the line is refused, or the line is bad.
--
--     no_details, with_detail, asks  Nothing more to show; one thing more to show; whether there is any.
--     Editing                       The editor, the order of its changes, if a line gave one, and what the answer shows besides.
--     Roots, with_root              The root with each name; the same with one more root.
--     State, new_state              The language of the next line, the number of the next tree, the roots, the annotation words by their
--                                   first use, and what is edited; the state before the first line, in a dialect.
--     element_in, node_in, elements_in  The element that a reference leads to; the node; those of several references, if there is one for
--                                   each.
--     position_in                   The position that a line names; none beside a root.
--     of_both                       What is made of two values, if there are both.
--     call_in                       The call that a line makes to record a change, if all that it names is there. One new element has a
--                                   call of its own, and so has a range without any.
--     Step                          What a line does: `Goes` to a state, `Refuses`, or `IsBad`.
--     with_editor                   A state with another editor.
--     IsFree, AreFree, named        A name is spelled as one of a kind, no kind has it, and there is a next kind, which has no name; names
--                                   are, where each that comes first is given to the next kind; the names of kinds after these were given.
--     KindsStep                     What a line `kinds` does, which comes before any tree.
--     root_refusal, tree_step       Why a tree becomes no root, if it doesn't: `TooLong` first; what a line `tree` does.
--     edit_step                     What a line `edit` does: the root is the node's own, or one of a new tree where the node has a parent.
--     shifted, shift_step           A tree a level further in or out; what a line `indent` or `dedent` does: it makes a tree of one.
--     record_step, recorded_in      What a call does that records a change; the same, where there may be no such call or no editor.
--     spaced_step, spaced_in        What a line `spaced` does, with the next tree numbers; the same, where something may be missing.
--     WrapRefusal, WrapStep, WrapsStep  Why a node is not put between other elements; what that does; what a line `wrap` does.
--     PairRefuses, PairStep, MapStep  Why a pair of a node and its copy is refused below a parent; what the pair does; what a line `map`
--                                   does.
--     with_word, annotation_of      The words after one was used: a new one comes last; the annotation of a word, which counts from 1.
--     note_step, order_step, show_step  What a line `note` does, what a line `order` does, what a line `show` does.
--     Steps                         What a line does that does not end the script.
--
-- The script
--
-- ```text
-- tree A (ARG_LIST L_PAREN"(" IDENT"a" R_PAREN")")
-- edit R A
-- tree U (SOURCE_FILE UNDERSCORE"_")
-- replace R/1 U/0
-- finish
-- ```
--
-- goes through five states. Line 1 names the tree 1 `A`, and the next number is 2. Line 2 names the same root `R`,
-- since `A` has no parent, and there is an editor. Line 3 names the tree 2 `U`. Line 4 has the call `Replacing` of two
-- tokens, which the editor takes. Line 5 is `finish`: something is edited and nothing follows, so the script is
-- `Edited`, and the edit is what the plan of that one change makes under the tree number 3, with no annotation words.
-- With `replace R/3 U/0` in line 4 there is no element at `R/3`, so no call: the script is `BadLine 4`. With `delete R`
-- there is a call, and it is refused: the script is `Refused` with `DeletesRoot`. With a line `edit S A` after `finish`
-- it is `BadLine 6`; with a comment there it is `Edited`.
use Rattle.std.specs.Prelude.{◌≡◌, ℕ, suc, ◌<◌, ◌+◌, ◌^◌, Bool, true, false, ◌==◌, ◌&&◌, ◌||◌, cond, List, [], ◌∷◌, ◌++◌, Option, Some, None, option_map, option_and_then, is_some, nat_le, MatchOption}
use Rattle.std.specs.Option.{option_map_or}
use Rattle.std.specs.List.{list_any, position_or_len}
use Rattle.std.specs.Map.{update}
use Rattle.std.specs.Str.{bytes_eq}
use Rattle.syntax_editor.specs.Tree.{SyntaxTree, text_length}
use Rattle.syntax_editor.specs.Green.{length_limit}
use Rattle.syntax_editor.specs.TreeIds.{spent}
use Rattle.syntax_editor.specs.Element.{Element, subtree}
use Rattle.syntax_editor.specs.SyntaxElement.{node_of, syntax_at}
use Rattle.cst_core.specs.declared.element.SyntaxElement.{SyntaxElement}
use Rattle.syntax_editor.specs.TreeError.{TreeError}
use Rattle.syntax_editor.specs.TreeError.TheVariants.{TooLong, NoTreeNumber}
use Rattle.syntax_editor.specs.MapError.TheVariants as map_error
use Rattle.syntax_editor.specs.Builder.{IsPairUnder, RefusesPair}
use Rattle.syntax_editor.specs.PositionForm.{PositionForm, FirstChild}
use Rattle.syntax_editor.specs.Position.{before, after, last_child_of}
use Rattle.syntax_editor.specs.RecordCall.{RecordCall, Inserting, InsertingAll, Deleting, Replacing, ReplacingWithMany, DeletingAll, ReplacingAll, refusal}
use Rattle.syntax_editor.specs.Editor.{Editor, has_parent, edited_root, new_editor, after_call, Maps, registered_with}
use Rattle.syntax_editor.specs.Indentation.{indented, dedented}
use Rattle.syntax_editor.specs.Spacing.{numbers_needed}
use Rattle.syntax_editor.specs.SpacingCalls.{spaced_insert, spacing_refusal}
use Rattle.syntax_editor.specs.SyntaxKind.{SyntaxKind}
use Rattle.syntax_editor.specs.Wrapping.{CanWrap, WrapRefuses, Wraps, wrapped_copy, wrapped_tree, wrapper}
use Rattle.syntax_editor.specs.declared.wrap_error.WrapError.TheVariants as wrap_error
use Rattle.syntax_editor.specs.declared.error.RecordError.TheVariants as record_error
use Rattle.list_removal.specs.Removal.{removal}
use Rattle.tree_text.specs.KindNames.{KindName, IsTaken, is_name, name_in, next_kind}
use Rattle.script_lines.specs.Dialect.{Language, new_language}
use Rattle.script_lines.specs.declared.dialect.Dialect.{Dialect}
use Rattle.script_lines.specs.declared.detail.Detail.{Detail}
use Rattle.script_lines.specs.declared.detail.Detail.TheVariants as detail
use Rattle.script_lines.specs.declared.line.Shift.{Shift}
use Rattle.script_lines.specs.declared.line.Shift.TheVariants.{Indent, Dedent}
use Rattle.script_lines.specs.ScriptLine as line
use Rattle.script_lines.specs.ScriptLine.{Ref, Gap, ScriptLine, First, Last, Before, After}
use Rattle.syned_script.specs.declared.shown.Details.{Details}
use Rattle.syned_script.specs.declared.refusal.Refusal.{Refusal}
use Rattle.syned_script.specs.declared.refusal.Refusal.TheVariants as refused

abbrev pub no_details : Details
no_details = record { edits = false; tree = false; ranges = false }

abbrev pub with_detail : Detail → Details → Details
with_detail detail.Edits d = record d { edits = true }
with_detail detail.Tree d = record d { tree = true }
with_detail detail.Ranges d = record d { ranges = true }

abbrev pub asks : Details → Bool
asks d = d.edits || d.tree || d.ranges

pub record Editing : Type 0 where
  pub editor : Editor
  pub order : Option (List ℕ)
  pub details : Details

abbrev pub Roots : Type 0
Roots = List ℕ → Option Element

abbrev pub with_root : List ℕ → Element → Roots → Roots
with_root name root roots = update bytes_eq roots name (Some root)

pub record State : Type 0 where
  pub language : Language
  pub next : ℕ
  pub roots : Roots
  pub words : List (List ℕ)
  pub editing : Option Editing

abbrev pub new_state : Dialect → State
new_state dialect =
    record { language = new_language dialect; next = 1; roots = λ name. None; words = []; editing = None }

-- ---- what a line names
abbrev pub element_in : Roots → Ref → Option SyntaxElement
element_in roots r = option_and_then (λ root. syntax_at root (root.path ++ r.path)) (roots r.name)

abbrev pub node_in : Roots → Ref → Option Element
node_in roots r = option_and_then node_of (element_in roots r)

abbrev pub of_both : {A B C : Type 0} → (A → B → C) → Option A → Option B → Option C
of_both f (Some x) (Some y) = Some (f x y)
of_both f (Some x) None = None
of_both f None y = None

abbrev pub elements_in : Roots → List Ref → Option (List SyntaxElement)
elements_in roots [] = Some []
elements_in roots (r ∷ rs) = of_both (λ e es. e ∷ es) (element_in roots r) (elements_in roots rs)

abbrev pub position_in : Roots → Gap → Option PositionForm
position_in roots (First node) = option_map FirstChild (node_in roots node)
position_in roots (Last node) = option_map last_child_of (node_in roots node)
position_in roots (Before element) = option_and_then before (element_in roots element)
position_in roots (After element) = option_and_then after (element_in roots element)

-- ---- the call of a line
-- one new element has a call of its own, and so has a range without any
abbrev pub call_in : Roots → ScriptLine → Option RecordCall
call_in roots (line.Insert at (one ∷ [])) = of_both Inserting (position_in roots at) (element_in roots one)
call_in roots (line.Insert at payload) = of_both InsertingAll (position_in roots at) (elements_in roots payload)
call_in roots (line.Delete target) = option_map Deleting (element_in roots target)
call_in roots (line.Replace target (one ∷ [])) = of_both Replacing (element_in roots target) (element_in roots one)
call_in roots (line.Replace target payload) =
    of_both ReplacingWithMany (element_in roots target) (elements_in roots payload)
call_in roots (line.Range first last []) = of_both DeletingAll (element_in roots first) (element_in roots last)
call_in roots (line.Range first last (one ∷ more)) =
    option_and_then (λ e. of_both (ReplacingAll e) (element_in roots last) (elements_in roots (one ∷ more)))
    (element_in roots first)
call_in roots (line.Remove element separator) = option_map (removal separator) (element_in roots element)
call_in roots _ = None

-- ---- what a line does
pub data Step : Type 0 where
  Goes : (to : State) → Step
  Refuses : (refusal : Refusal) → Step
  IsBad : Step

abbrev pub with_editor : Editor → Editing → State → State
with_editor editor e s = record s { editing = Some (record e { editor = editor }) }

abbrev pub IsFree : List KindName → List ℕ → Type 0
IsFree given name =
    (is_name name ≡ true) × (next_kind given < 2 ^ 16) × (name_in given (next_kind given) ≡ None) × (IsTaken given name → ⊥)

abbrev pub AreFree : List KindName → List (List ℕ) → Type 0
AreFree given [] = Unit {0}
AreFree given (name ∷ names) = IsFree given name × AreFree (given ++ (next_kind given, name) ∷ []) names

abbrev pub named : List KindName → List (List ℕ) → List KindName
named given [] = given
named given (name ∷ names) = named (given ++ (next_kind given, name) ∷ []) names

-- the number of the first tree is 1
abbrev pub KindsStep : State → List (List ℕ) → Step → Type 0
KindsStep s names (Goes t) =
    (s.next ≡ 1) × AreFree s.language.kinds names
    × (t ≡ record s { language = record s.language { kinds = named s.language.kinds names } })
KindsStep s names (Refuses reason) = ⊥
KindsStep s names IsBad = s.next ≡ 1 → AreFree s.language.kinds names → ⊥

abbrev pub root_refusal : ℕ → SyntaxTree → Option TreeError
root_refusal next t =
    cond (nat_le length_limit (text_length t)) (Some TooLong) (cond (next == spent) (Some NoTreeNumber) None)

abbrev pub tree_step : State → List ℕ → SyntaxTree → Step
tree_step s name t =
    let root : Element = record { number = s.next; root = t; path = [] } in
    cond (is_some (s.roots name)) IsBad (option_map_or (λ e. Refuses (refused.Tree e)) (root_refusal s.next t)
    (Goes (record s { next = suc s.next; roots = with_root name root s.roots })))

-- the root is one of a new tree where the node has a parent
abbrev begun : State → List ℕ → Element → State
begun s name node = record {
  language = s.language;
  next = cond (has_parent node) (suc s.next) s.next;
  roots = with_root name (edited_root s.next node) s.roots;
  words = s.words;
  editing = Some (record { editor = new_editor s.next node; order = None; details = no_details });
}

abbrev pub edit_step : State → List ℕ → Option Element → Step
edit_step s name None = IsBad
edit_step s name (Some node) = cond (is_some s.editing || is_some (s.roots name)) IsBad
    (cond (has_parent node && s.next == spent) (Refuses (refused.Tree NoTreeNumber)) (Goes (begun s name node)))

abbrev pub shifted : Shift → SyntaxTree → SyntaxTree
shifted Indent t = indented 1 t
shifted Dedent t = dedented 1 t

abbrev pub shift_step : State → Shift → List ℕ → Option Element → Step
shift_step s shift name None = IsBad
shift_step s shift name (Some node) = tree_step s name (shifted shift (subtree node))

abbrev pub record_step : State → RecordCall → Editing → Step
record_step s call e =
    option_map_or (λ r. Refuses (refused.Record r)) (refusal e.editor.root call)
    (Goes (with_editor (after_call call e.editor) e s))

abbrev pub recorded_in : State → Option RecordCall → Step
recorded_in s None = IsBad
recorded_in s (Some call) = option_map_or (record_step s call) s.editing IsBad

abbrev spaced_step : State → PositionForm → List SyntaxElement → Editing → Step
spaced_step s at es e =
    let editor = after_call (spaced_insert s.next at es) e.editor in
    option_map_or (λ r. Refuses (refused.Record r)) (spacing_refusal e.editor.root s.next at es)
    (Goes (record (with_editor editor e s) { next = s.next + numbers_needed at es }))

abbrev pub spaced_in : State → Option PositionForm → Option (List SyntaxElement) → Step
spaced_in s (Some at) (Some es) = option_map_or (spaced_step s at es) s.editing IsBad
spaced_in s _ _ = IsBad

abbrev pub WrapRefusal : Element → ℕ → SyntaxTree → Element → Refusal → Type 0
WrapRefusal root next t n (refused.Tree TooLong) = WrapRefuses root next t n wrap_error.TooLong
WrapRefusal root next t n (refused.Tree NoTreeNumber) = WrapRefuses root next t n wrap_error.NoTreeNumber
WrapRefusal root next t n (refused.Map map_error.NotYounger) = WrapRefuses root next t n wrap_error.NotYounger
WrapRefusal root next t n (refused.Record record_error.Foreign) = WrapRefuses root next t n wrap_error.Foreign
WrapRefusal root next t n _ = ⊥

abbrev pub WrapStep : State → SyntaxKind → Element → List SyntaxElement → List SyntaxElement → Editing → Step → Type 0
WrapStep s kind n before after e (Goes t) =
    CanWrap e.editor.root s.next (wrapped_tree kind before n after) n
    × ((editor : Editor)
    × Wraps n (wrapper s.next kind before n after) ((n, wrapped_copy s.next kind before n after) ∷ []) e.editor editor
    × (t ≡ record (with_editor editor e s) { next = s.next + 1 }))
WrapStep s kind n before after e (Refuses r) = WrapRefusal e.editor.root s.next (wrapped_tree kind before n after) n r
WrapStep s kind n before after e IsBad = ⊥

abbrev pub WrapsStep : State → SyntaxKind → Option Element → Option (List SyntaxElement) → Option (List SyntaxElement) → Step → Type 0
WrapsStep s kind (Some n) (Some before) (Some after) step =
    MatchOption s.editing (step ≡ IsBad) (λ e. WrapStep s kind n before after e step)
WrapsStep s kind _ _ _ step = step ≡ IsBad

abbrev pub PairRefuses : Element → Element × Element → Refusal → Type 0
PairRefuses parent pair (refused.Map map_error.Memory) = ⊥
PairRefuses parent pair (refused.Map reason) = RefusesPair parent pair reason
PairRefuses parent pair _ = ⊥

abbrev pub PairStep : State → Element → Element × Element → Editing → Step → Type 0
PairStep s parent pair e (Goes t) =
    IsPairUnder parent pair × ((editor : Editor) × Maps (pair ∷ []) e.editor editor × (t ≡ with_editor editor e s))
PairStep s parent pair e (Refuses reason) = PairRefuses parent pair reason
PairStep s parent pair e IsBad = ⊥

abbrev pub MapStep : State → Option Element → Option Element → Option Element → Step → Type 0
MapStep s (Some parent) (Some input) (Some output) step =
    MatchOption s.editing (step ≡ IsBad) (λ e. PairStep s parent (input, output) e step)
MapStep s _ _ _ step = step ≡ IsBad

-- a word that was not used before comes last
abbrev pub with_word : List ℕ → List (List ℕ) → List (List ℕ)
with_word word words = cond (list_any (bytes_eq word) words) words (words ++ word ∷ [])

-- annotations count from 1
abbrev pub annotation_of : List (List ℕ) → List ℕ → ℕ
annotation_of words word = suc (position_or_len (bytes_eq word) words)

abbrev noted : State → List ℕ → SyntaxElement → Editing → State
noted s word e editing =
    let words = with_word word s.words in
    let editor = registered_with (annotation_of words word) (e ∷ []) editing.editor in
    record (with_editor editor editing s) { words = words }

abbrev pub note_step : State → List ℕ → Option SyntaxElement → Step
note_step s word None = IsBad
note_step s word (Some e) = option_map_or (λ editing. Goes (noted s word e editing)) s.editing IsBad

abbrev pub order_step : State → List ℕ → Step
order_step s order = option_map_or (λ e. cond (is_some e.order) IsBad
    (Goes (record s { editing = Some (record e { order = Some order }) }))) s.editing IsBad

abbrev pub show_step : State → Detail → Step
show_step s detail =
    option_map_or (λ e. Goes (record s { editing = Some (record e { details = with_detail detail e.details }) })) s.editing IsBad

abbrev pub Steps : State → ScriptLine → Step → Type 0
Steps s line.Blank step = step ≡ Goes s
Steps s (line.Kinds names) step = KindsStep s names step
Steps s (line.Tree name root) step = step ≡ tree_step s name root
Steps s (line.Edit name node) step = step ≡ edit_step s name (node_in s.roots node)
Steps s (line.Map parent input output) step =
    MapStep s (node_in s.roots parent) (node_in s.roots input) (node_in s.roots output) step
Steps s (line.Note word element) step = step ≡ note_step s word (element_in s.roots element)
Steps s (line.Order order) step = step ≡ order_step s order
Steps s (line.Show detail) step = step ≡ show_step s detail
Steps s (line.Spaced at payload) step = step ≡ spaced_in s (position_in s.roots at) (elements_in s.roots payload)
Steps s (line.Wrap node kind before after) step =
    WrapsStep s kind (node_in s.roots node) (elements_in s.roots before) (elements_in s.roots after) step
Steps s (line.Shifted shift name node) step = step ≡ shift_step s shift name (node_in s.roots node)
Steps s line.Finish step = ⊥
Steps s call step = step ≡ recorded_in s (call_in s.roots call)
