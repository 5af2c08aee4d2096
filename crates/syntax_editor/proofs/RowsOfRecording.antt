-- Worked examples of recorded lists and of refused calls.
use Rattle.std.specs.Prelude.{◌≡◌, List, [], ◌∷◌, codes, map, true, false, Option, Some, None, refl}
use Rattle.cst_core.specs.Tree.{SyntaxTree}
use Rattle.cst_core.specs.Element.{Element, element_at}
use Rattle.cst_core.specs.Kinds.{ATTR, DOC_COMMENT, FN, FN_KW, WHITESPACE}
use Rattle.cst_core.specs.SyntaxElement.{element_of}
use Rattle.cst_core.specs.declared.element.SyntaxElement.TheVariants.{Node, Token}
use Rattle.edit_plan.specs.PositionForm.{FirstChild, After}
use Rattle.edit_change.specs.declared.change.Change.{Change}
use Rattle.edit_change.specs.declared.change.Change.TheVariants.{Insert, InsertAll, Replace, ReplaceWithMany, ReplaceAll}
use Rattle.edit_plan.specs.Nesting.{first_clash}
use Rattle.edit_map.proofs.RowTrees.{token, branch, tree_L}
use Rattle.change_list.specs.Recording.{is_deleted, delete, replace, merged}
use Rattle.edit_plan.specs.Fits.{fits}
use Rattle.syntax_editor.specs.RecordCall.{RecordCall, Inserting, Deleting, Replacing, ReplacingWithMany, DeletingAll, ReplacingAll, all_recorded, refusal}
use Rattle.syntax_editor.specs.AttrsAndDocs.{removed_slots, remove_attrs_and_docs}
use Rattle.syntax_editor.specs.declared.error.RecordError.{RecordError}
use Rattle.syntax_editor.specs.declared.error.RecordError.TheVariants.{Foreign, BadRange, DeletesRoot, RootReplacement}
use Rattle.syntax_editor.proofs.RowEdits.{outcome, in_tree, R, U, V, X, Y, tree_H}

-- ---- one change for each replaced element
abbrev calls_on_one_element : List RecordCall
calls_on_one_element = Replacing (R (1 ∷ [])) X ∷ Deleting (R (1 ∷ [])) ∷ Replacing (R (1 ∷ [])) Y ∷ []

deletion_stands : all_recorded calls_on_one_element ≡ Replace (R (1 ∷ [])) None ∷ []
deletion_stands = refl

deletion_stands_outcome : outcome (all_recorded calls_on_one_element) tree_L ≡ (codes "(, 2)", [])
deletion_stands_outcome = refl

deletion_stands_deleted : is_deleted (R (1 ∷ [])) (all_recorded calls_on_one_element) ≡ true
deletion_stands_deleted = refl

-- a deleted range deletes no element
deleted_range_deletes_no_element : is_deleted (R (1 ∷ [])) (all_recorded (DeletingAll (R (1 ∷ [])) (R (3 ∷ [])) ∷ [])) ≡ false
deleted_range_deletes_no_element = refl

last_replacement_stands : all_recorded (Replacing (R (1 ∷ [])) X ∷ Replacing (R (4 ∷ [])) X ∷ Replacing (R (1 ∷ [])) Y ∷ []) ≡ Replace (R (1 ∷ [])) (Some Y) ∷ Replace (R (4 ∷ [])) (Some X) ∷ []
last_replacement_stands = refl

-- a range of one element is that element
range_of_one_element : all_recorded (DeletingAll (R (1 ∷ [])) (R (1 ∷ [])) ∷ ReplacingAll (R (4 ∷ [])) (R (4 ∷ [])) (X ∷ []) ∷ Deleting (R (1 ∷ [])) ∷ []) ≡ Replace (R (1 ∷ [])) None ∷ ReplaceWithMany (R (4 ∷ [])) (X ∷ []) ∷ []
range_of_one_element = refl

-- nothing but a Replace is taken up
not_taken_up : all_recorded (ReplacingWithMany (R (1 ∷ [])) (X ∷ []) ∷ Deleting (R (1 ∷ [])) ∷ ReplacingWithMany (R (1 ∷ [])) [] ∷ []) ≡ ReplaceWithMany (R (1 ∷ [])) (X ∷ []) ∷ Replace (R (1 ∷ [])) None ∷ ReplaceWithMany (R (1 ∷ [])) [] ∷ []
not_taken_up = refl

-- ---- two editors
abbrev changes_of_two_editors : List Change
changes_of_two_editors = merged (delete (R (1 ∷ [])) []) (delete (R (1 ∷ [])) [])

deleted_by_two_editors : changes_of_two_editors ≡ Replace (R (1 ∷ [])) None ∷ Replace (R (1 ∷ [])) None ∷ []
deleted_by_two_editors = refl

deleted_by_two_editors_clash : first_clash changes_of_two_editors ≡ Some (0, 1)
deleted_by_two_editors_clash = refl

-- after a merge the first one takes a replacement up
replaced_after_a_merge : ◌≡◌ {A = List (List Change)} (map (replace (R (1 ∷ [])) Y) (merged (replace (R (1 ∷ [])) X []) (delete (R (1 ∷ [])) []) ∷ changes_of_two_editors ∷ []))
    ((Replace (R (1 ∷ [])) (Some Y) ∷ Replace (R (1 ∷ [])) None ∷ []) ∷ changes_of_two_editors ∷ [])
replaced_after_a_merge = refl

-- ---- refused calls
abbrev root : Element
root = element_of (R [])

abbrev refused : List RecordCall → List (Option RecordError)
refused calls = map (refusal root) calls

calls_refused : refused (Deleting (R []) ∷ Replacing (R []) U ∷ ReplacingWithMany (R []) (V ∷ V ∷ []) ∷ DeletingAll (R (4 ∷ [])) (R (1 ∷ [])) ∷ DeletingAll (R (0 ∷ [])) (R (1 ∷ 0 ∷ [])) ∷ Inserting (FirstChild (element_of V)) X ∷ [])
    ≡ Some DeletesRoot ∷ Some RootReplacement ∷ Some RootReplacement ∷ Some BadRange ∷ Some BadRange ∷ Some Foreign ∷ []
calls_refused = refl

-- a range of the root alone is the root
range_of_the_root : refused (DeletingAll (R []) (R []) ∷ ReplacingAll (R []) (R []) (V ∷ V ∷ []) ∷ ReplacingAll (R []) (R []) (V ∷ []) ∷ DeletingAll (R []) (R (1 ∷ [])) ∷ []) ≡ Some DeletesRoot ∷ Some RootReplacement ∷ None ∷ Some BadRange ∷ []
range_of_the_root = refl

-- a path that leads nowhere, and a token where there is a node
no_such_element : refused (Deleting (Token (element_at root (9 ∷ []))) ∷ Deleting (Token (element_at root (1 ∷ []))) ∷ Deleting (Node (element_at root (1 ∷ []))) ∷ []) ≡ Some Foreign ∷ Some Foreign ∷ None ∷ []
no_such_element = refl

-- what is foreign is refused first
foreign_is_refused_first : refused (DeletingAll (R (4 ∷ [])) V ∷ DeletingAll V (R (4 ∷ [])) ∷ ReplacingAll (R (1 ∷ [])) (R (3 ∷ [])) (U ∷ V ∷ []) ∷ []) ≡ Some Foreign ∷ Some Foreign ∷ None ∷ []
foreign_is_refused_first = refl

recorded_below_a_replaced_root : ◌≡◌ {A = List Change} (all_recorded (ReplacingWithMany (R []) (V ∷ []) ∷ Deleting (R (1 ∷ [])) ∷ [])) (ReplaceWithMany (R []) (V ∷ []) ∷ Replace (R (1 ∷ [])) None ∷ [])
recorded_below_a_replaced_root = refl

changes_that_fit : map (fits root) (Replace (R []) None ∷ Replace (R []) (Some V) ∷ Replace (R []) (Some U) ∷ ReplaceAll (R (1 ∷ [])) (R (1 ∷ [])) [] ∷ ReplaceAll (R (1 ∷ [])) (R (3 ∷ [])) [] ∷ InsertAll (After (R (1 ∷ []))) [] ∷ Insert (FirstChild (element_of V)) X ∷ []) ≡ false ∷ true ∷ false ∷ false ∷ true ∷ true ∷ false ∷ []
changes_that_fit = refl

-- ---- attributes and comments
slots_of_attributes_and_comments : removed_slots tree_H ≡ 0 ∷ 1 ∷ 2 ∷ 3 ∷ []
slots_of_attributes_and_comments = refl

attributes_and_comments_deleted : remove_attrs_and_docs (element_of (in_tree tree_H [])) [] ≡ Replace (in_tree tree_H (0 ∷ [])) None ∷ Replace (in_tree tree_H (1 ∷ [])) None ∷ Replace (in_tree tree_H (2 ∷ [])) None ∷ Replace (in_tree tree_H (3 ∷ [])) None ∷ []
attributes_and_comments_deleted = refl

attributes_and_comments_deleted_outcome : outcome (remove_attrs_and_docs (element_of (in_tree tree_H [])) []) tree_H ≡ (codes "fn f() {}", [])
attributes_and_comments_deleted_outcome = refl

-- only what is of the kind WHITESPACE directly after an attribute or a comment goes with it, a node too
abbrev spaced_out : SyntaxTree
spaced_out =
    branch FN (token WHITESPACE (codes " ") ∷ branch ATTR [] ∷ token WHITESPACE (codes " ") ∷ token WHITESPACE (codes " ") ∷ token DOC_COMMENT (codes "///") ∷ branch WHITESPACE [] ∷ token FN_KW (codes "fn") ∷ token WHITESPACE (codes " ") ∷ [])

slots_of_whitespace_directly_after : removed_slots spaced_out ≡ 1 ∷ 2 ∷ 4 ∷ 5 ∷ []
slots_of_whitespace_directly_after = refl
