-- What a run prints, and what becomes of its ends.
-- A run of `syned` reads a script and prints an answer. It ends with the status 0 if an edit was made, 1 if it was
-- refused, 2 if the script is bad, and 3 if the run failed.
--
--     place_of, places_of           What is printed of an element: its path, and where ranges are shown also where it begins and ends, such
--                                   as `1@3..5`; what is printed of several.
--     spaced, places_text           A place after a space; several places so.
--     Note, note_text               An annotation's word with the places of its elements; the line of a note, such as `note w 1 5`.
--     notes_of                      Each word that was used with the places of the elements that its annotation is found at.
--     edit_text                     The printed edit: the new text, escaped, the changed places, and the notes.
--     edit_line, tree_line          The line of an edit of the old text; that of the new tree, which has one if each of its kinds has a name.
--     shown_text                    The lines of what is shown besides: edits first.
--     refused_text, bad_text        The line of what a refusal prints; that of a bad script, with the number of the bad line.
--     status_of, printed            The exit status of a script that ends so: 0 for an edit, 1 for a refusal, 2 for a bad line; what is
--                                   printed.
--     IsNoScript                    Bytes that are too many for a script of a dialect, or not UTF-8.
--     IsOutcome                     A script of a dialect ends (`MeansFor`) so that a run has this status, and prints this.
--     IsAnswerFor                   The same of bytes that may be no script; those are bad in line 0.
--     IsAnswerOf                    `IsAnswerFor`, for the script that a run took from a reader: its first bytes, by `IsFrontOf`.
--     AnswersFor, Answers           A run read its script and wrote all of its answer; in `Syned`.
--     WritesBeginning               A run read its script and wrote a beginning of an answer.
--     FailsFor, Fails               It did, or wrote nothing; in `Syned`.
--
-- The script of 'syned_script: State' has the status 0 and the answer `text "(_)"` and `changed 1`: the new text is that
-- of the new root, `1` the path of the one changed element, and no word was used. With `delete R` in its line 4 the
-- status is 1 and the answer `refused DeletesRoot`.
use Rattle.std.specs.Prelude.{◌≡◌, ◌⊎◌, ℕ, ◌+◌, ◌<◌, Bool, true, false, cond, List, [], ◌++◌, map, length, take, Option, is_some, unwrap_or, codes, decimal, IsUtf8}
use Rattle.std.specs.List.{flat_map}
use Rattle.std.specs.Io.KnownBytes.{Appends, Consumes, Keeps}
use Rattle.cst_core.specs.Tree.{SyntaxTree, text}
use Rattle.cst_core.specs.Order.{start}
use Rattle.cst_core.specs.Element.{subtree}
use Rattle.cst_core.specs.AtOffset.{end_of}
use Rattle.cst_core.specs.SyntaxElement.{element_of}
use Rattle.cst_core.specs.declared.element.SyntaxElement.{SyntaxElement}
use Rattle.syntax_editor.specs.Plan.{Edit, found_for}
use Rattle.syntax_editor.specs.PlanText.{path_text}
use Rattle.syntax_editor.specs.TextPiece.{TextPiece}
use Rattle.tree_text.specs.Escape.{escaped}
use Rattle.tree_text.specs.KindNames.{KindName}
use Rattle.tree_text.specs.TreeText.{expression_of, unnamed_in}
use Rattle.syned_script.specs.RefusalText.{refusal_text}
use Rattle.syned_script.specs.State.{annotation_of}
use Rattle.syned_script.specs.Script.{Outcome, Edited, Showed, Showing, Refused, BadLine, MeansFor}
use Rattle.script_lines.specs.Dialect.{bytes_in}
use Rattle.script_lines.specs.declared.dialect.Dialect.{Dialect}
use Rattle.script_lines.specs.declared.dialect.Dialect.TheVariants.{Syned}
use Rattle.syned_run.specs.Ends.{IsFrontOf}

abbrev pub place_of : Bool → SyntaxElement → List ℕ
place_of false e = path_text (element_of e).path
place_of true e =
    path_text (element_of e).path ++ codes "@" ++ decimal (start (element_of e).root (element_of e).path)
    ++ codes ".." ++ decimal (end_of (element_of e))

abbrev pub places_of : Bool → List SyntaxElement → List (List ℕ)
places_of ranges es = map (place_of ranges) es

abbrev pub spaced : List ℕ → List ℕ
spaced place = codes " " ++ place

abbrev pub places_text : List (List ℕ) → List ℕ
places_text places = flat_map spaced places

abbrev pub Note : Type 0
Note = List ℕ × List (List ℕ)

abbrev pub note_text : Note → List ℕ
note_text (word, places) = codes "note " ++ word ++ places_text places ++ codes "\n"

abbrev pub notes_of : Bool → Edit → List (List ℕ) → List Note
notes_of ranges e words = map (λ word. (word, places_of ranges (found_for e.annotated (annotation_of words word)))) words

abbrev pub edit_text : List ℕ → List (List ℕ) → List Note → List ℕ
edit_text new changed notes =
    codes "text \"" ++ escaped new ++ codes "\"\nchanged" ++ places_text changed ++ codes "\n"
    ++ flat_map note_text notes

abbrev pub edit_line : TextPiece → List ℕ
edit_line e =
    codes "edit " ++ decimal e.first ++ codes " " ++ decimal e.stop ++ codes " \"" ++ escaped e.text ++ codes "\"\n"

abbrev pub tree_line : List KindName → SyntaxTree → List ℕ
tree_line kinds t = cond (is_some (unnamed_in kinds t)) [] (codes "tree " ++ expression_of kinds t ++ codes "\n")

abbrev pub shown_text : Showing → SyntaxTree → List ℕ
shown_text shown new =
    flat_map edit_line (unwrap_or shown.edits []) ++ cond shown.details.tree (tree_line shown.kinds new) []

abbrev pub refused_text : List ℕ → List ℕ
refused_text printed = codes "refused " ++ printed ++ codes "\n"

abbrev pub bad_text : ℕ → List ℕ
bad_text line = codes "bad script line " ++ decimal line ++ codes "\n"

-- ---- the answer
abbrev pub status_of : Outcome → ℕ
status_of (Edited edit words) = 0
status_of (Showed edit words shown) = 0
status_of (Refused reason) = 1
status_of (BadLine number) = 2

abbrev printed_with : Bool → Edit → List (List ℕ) → List ℕ
printed_with ranges edit words =
    edit_text (text (subtree edit.new_root)) (places_of ranges edit.changed) (notes_of ranges edit words)

abbrev pub printed : Outcome → List ℕ
printed (Edited edit words) = printed_with false edit words
printed (Showed edit words shown) =
    printed_with shown.details.ranges edit words ++ shown_text shown (subtree edit.new_root)
printed (Refused reason) = refused_text (refusal_text reason)
printed (BadLine number) = bad_text number

abbrev pub IsNoScript : Dialect → List ℕ → Type 0
IsNoScript d bytes = (bytes_in d < length bytes) ⊎ ¬ (IsUtf8 bytes)

abbrev pub IsOutcome : Dialect → List ℕ → ℕ → List ℕ → Type 0
IsOutcome d script status answer = (o : Outcome) × MeansFor d script o × (status ≡ status_of o) × (answer ≡ printed o)

abbrev pub IsAnswerFor : Dialect → List ℕ → ℕ → List ℕ → Type 0
IsAnswerFor d bytes status answer =
    (IsNoScript d bytes × (status ≡ 2) × (answer ≡ bad_text 0))
    ⊎ ((IsNoScript d bytes → ⊥) × IsOutcome d bytes status answer)

abbrev pub IsAnswerOf : Dialect → Option (List ℕ) → Option (List ℕ) → ℕ → List ℕ → Type 0
IsAnswerOf d left left' status bytes =
    (script : List ℕ) × Consumes left left' script × IsFrontOf left (bytes_in d + 1) script
    × IsAnswerFor d script status bytes

abbrev pub AnswersFor : {R W : Type 0} → Dialect → (R → Option (List ℕ)) → (W → Option (List ℕ)) → R → R → W → W → ℕ → Type 0
AnswersFor d remaining contents reader reader' writer writer' status =
    (bytes : List ℕ) × IsAnswerOf d (remaining reader) (remaining reader') status bytes
    × Appends (contents writer) (contents writer') bytes

abbrev pub Answers : {R W : Type 0} → (R → Option (List ℕ)) → (W → Option (List ℕ)) → R → R → W → W → ℕ → Type 0
Answers remaining contents reader reader' writer writer' status =
    AnswersFor Syned remaining contents reader reader' writer writer' status

abbrev pub WritesBeginning : {R W : Type 0} → Dialect → (R → Option (List ℕ)) → (W → Option (List ℕ)) → R → R → W → W → Type 0
WritesBeginning d remaining contents reader reader' writer writer' =
    (status : ℕ) × (bytes : List ℕ) × IsAnswerOf d (remaining reader) (remaining reader') status bytes
    × (n : ℕ) × Appends (contents writer) (contents writer') (take n bytes)

abbrev pub FailsFor : {R W : Type 0} → Dialect → (R → Option (List ℕ)) → (W → Option (List ℕ)) → R → R → W → W → Type 0
FailsFor d remaining contents reader reader' writer writer' =
    Keeps (contents writer) (contents writer') ⊎ WritesBeginning d remaining contents reader reader' writer writer'

abbrev pub Fails : {R W : Type 0} → (R → Option (List ℕ)) → (W → Option (List ℕ)) → R → R → W → W → Type 0
Fails remaining contents reader reader' writer writer' =
    FailsFor Syned remaining contents reader reader' writer writer'
