-- What is printed of an edit, piece by piece.
use Rattle.std.proofs.Common.{◌≡◌, ◌↔◌, ℕ, ◌≤◌, Bool, false, cond, String, string_bytes, List, [], ◌++◌, refl, map, length, take, Option, Some, None, is_some, Result, Ok, Err, OnOk, IfOk, is_ok, if◌then◌else◌, codes, ap, sym, ◌∙◌, append_assoc}
use Rattle.std.specs.Global.{Global}
use Rattle.std.specs.List.{flat_map}
use Rattle.std.proofs.lemmas.List.{append-nil, take_all}
use Rattle.std.proofs.lemmas.Simd.{map-map}
use Rattle.cst_core.specs.Tree.{SyntaxTree, text}
use Rattle.cst_core.specs.Element.{subtree}
use Rattle.tree_text.specs.KindNames.{KindName}
use Rattle.tree_text.specs.TreeText.{NamesUnnamed, expression_of, unnamed_in}
use Rattle.tree_text.specs.declared.write_error.WriteError.{WriteError}
use Rattle.tree_text.specs.declared.write_error.WriteError.TheVariants.{NoName}
use Rattle.syntax_editor.specs.Plan.{Edit, found_for}
use Rattle.syned_script.specs.ShownValue.{outcome_of}
use Rattle.syned_script.specs.declared.shown.Shown.{Shown}
use Rattle.syned_script.specs.WordValue.{word_of, with_number}
use Rattle.syned_script.specs.declared.words.Word.{Word}
use Rattle.syned_run.specs.Answer.{Note, edit_text, note_text, notes_of, places_of, places_text, printed, status_of, tree_line}
use Rattle.syned_run.specs.inner.Printing.{note_shown}

-- the texts of all items of a list
pub all_there : {X : Type 0} (f : X → List ℕ) (xs : List X) (i : ℕ) (start now : List ℕ) → length xs ≤ i → now ≡ start ++ flat_map f (take i xs) → now ≡ start ++ flat_map f xs
all_there f xs i start now past so_far = so_far ∙ ap (λ l. start ++ flat_map f l) (take_all i xs past)

-- the line of a note, put after what was there
pub noted : {A E : Type 0} (r : Result A E) (start begun named pathed ended word : List ℕ) (places : List (List ℕ)) → begun ≡ start ++ codes "note " → named ≡ begun ++ word → pathed ≡ named ++ places_text places → ended ≡ (if is_ok r then pathed ++ codes "\n" else pathed) → OnOk r (ended ≡ start ++ note_text (word, places))
noted (Err e) start begun named pathed ended word places begin name path end = tt
noted (Ok x) start begun named pathed ended word places begin name path end =
    let pieces = end ∙ ap (λ l. l ++ codes "\n") (path ∙ ap (λ l. l ++ places_text places) (name ∙ ap (λ l. l ++ word) begin)) in
    let in_word = ap (λ l. (l ++ places_text places) ++ codes "\n") (append_assoc start (codes "note ") word) in
    let in_paths = ap (λ l. l ++ codes "\n") (append_assoc start (codes "note " ++ word) (places_text places)) in
    pieces ∙ in_word ∙ in_paths ∙ append_assoc start ((codes "note " ++ word) ++ places_text places) (codes "\n")

-- the lines of the notes come last
pub with_notes : (new : List ℕ) (changed : List (List ℕ)) (notes : List Note) → edit_text new changed [] ++ flat_map note_text notes ≡ edit_text new changed notes
with_notes new changed notes = simp (append_assoc) refl

-- words in code with their annotations, as notes
pub shown_notes : (ranges : Bool) (e : Edit) (words : List (List ℕ)) (held : List Word) → map word_of held ≡ map (with_number words) words → map (note_shown ranges e) held ≡ notes_of ranges e words
shown_notes ranges e words held same =
    let shown : List ℕ × ℕ → Note = λ n. (n.0, places_of ranges (found_for e.annotated n.1)) in
    sym (map-map shown word_of held) ∙ ap (map shown) same ∙ map-map shown (with_number words) words

-- a tree with a kind that has no name has no line, and any other has one
pub no_tree_line : {A : Type 0} (names : List KindName) (t : SyntaxTree) (r : Result A WriteError) (k : ℕ) (s : List ℕ) → ((r ≡ Err (NoName (record { 0 = k }))) ↔ (unnamed_in names t ≡ Some k)) → r ≡ Err (NoName (record { 0 = k })) → s ≡ s ++ tree_line names t
no_tree_line names t r k s named is =
    sym (append-nil s) ∙ ap (λ o. s ++ cond (is_some o) [] (codes "tree " ++ expression_of names t ++ codes "\n")) (sym (named.0 is))

all-named : {A : Type 0} (r : Result A WriteError) (a : A) (o : Option ℕ) → ((k : ℕ) → (r ≡ Err (NoName (record { 0 = k }))) ↔ (o ≡ Some k)) → r ≡ Ok a → o ≡ None
all-named r a None named is = refl
all-named r a (Some k) named is = let other : r ≡ Err (NoName (record { 0 = k })) = (named k).1 refl in absurd (cc)

pub tree_line_is : {A : Type 0} (names : List KindName) (t : SyntaxTree) (r : Result A WriteError) (a : A) → NamesUnnamed r (unnamed_in names t) → r ≡ Ok a → codes "tree " ++ expression_of names t ++ codes "\n" ≡ tree_line names t
tree_line_is names t r a named is = ap (λ o. cond (is_some o) [] (codes "tree " ++ expression_of names t ++ codes "\n")) (sym (all-named r a (unnamed_in names t) named is))

-- an edit has the status 0, whatever is shown besides
pub done_alone : (edit : Edit) (words : List (List ℕ)) (shown : Option Shown) → status_of (outcome_of edit words shown) ≡ 0
done_alone edit words None = refl
done_alone edit words (Some s) = refl

-- what is printed of an edit and words, with nothing more and with more
pub printed_alone : (edit : Edit) (words : List (List ℕ)) (held : List Word) (shown : Option Shown) (E : Type 0) (r : Result (String Global) E) → map word_of held ≡ map (with_number words) words → ((x : Shown) → shown ≡ Some x → ⊥) → IfOk r (λ s. string_bytes s ≡ edit_text (text (subtree edit.new_root)) (places_of false edit.changed) (map (note_shown false edit) held)) → IfOk r (λ s. string_bytes s ≡ printed (outcome_of edit words shown))
printed_alone edit words held shown E (Err e) same none is = tt
printed_alone edit words held (Some x) E (Ok s) same none is = absurd (none x refl)
printed_alone edit words held None E (Ok s) same none is = is ∙ ap (edit_text (text (subtree edit.new_root)) (places_of false edit.changed)) (shown_notes false edit words held same)
