-- Worked examples of inserts with whitespace.
use Rattle.std.specs.Prelude.{◌≡◌, ℕ, List, [], ◌∷◌, codes, map, Option, Some, None, refl}
use Rattle.std.specs.Str.{chars}
use Rattle.cst_core.specs.SyntaxElement.{element_of}
use Rattle.cst_core.specs.declared.element.SyntaxElement.{SyntaxElement}
use Rattle.edit_change.specs.declared.position.Position.{Position}
use Rattle.edit_plan.specs.PositionForm.{FirstChild, After}
use Rattle.edit_change.specs.declared.change.Change.{Change}
use Rattle.edit_change.specs.declared.change.Change.TheVariants.{InsertAll}
use Rattle.edit_map.proofs.RowTrees.{tree_L, tree_B}
use Rattle.whitespace.specs.Spacing.{numbers_needed}
use Rattle.syntax_editor.specs.SpacingCalls.{spaced_insert, spacing_refusal}
use Rattle.syntax_editor.specs.RecordCall.{recorded}
use Rattle.syntax_editor.specs.declared.error.RecordError.{RecordError}
use Rattle.syntax_editor.specs.declared.error.RecordError.TheVariants.{Foreign, LevelTooLarge, NoTreeNumber}
use Rattle.syntax_editor.proofs.RowEdits.{outcome, in_tree, R, A3, S1, G, V, hash, tree_J, tree_deep, tree_hash_fn}

-- one new element, of the tree 2 at the earliest; the whitespace is of the trees from 20 on
abbrev inserted : Position → SyntaxElement → List Change
inserted at e = recorded (spaced_insert 20 at (e ∷ [])) []

space_after_a_new_element : outcome (inserted (After (R (2 ∷ []))) A3) tree_L ≡ (codes "(1, 3 2)", (3 ∷ []) ∷ (4 ∷ []) ∷ [])
unfolding chars
space_after_a_new_element = refl

space_after_a_new_first_child : outcome (inserted (FirstChild (element_of (R []))) A3) tree_L ≡ (codes "3 (1, 2)", (0 ∷ []) ∷ (1 ∷ []) ∷ [])
unfolding chars
space_after_a_new_first_child = refl

new_line_before_a_new_statement : outcome (inserted (After (in_tree tree_B (0 ∷ 0 ∷ []))) S1) tree_B ≡ (codes "{\n    let first = 1;\n    let second = 2;\n}", (0 ∷ 1 ∷ []) ∷ (0 ∷ 2 ∷ []) ∷ [])
unfolding chars
new_line_before_a_new_statement = refl

new_line_after_an_opening_brace : outcome (inserted (After (in_tree tree_J (0 ∷ []))) G) tree_J ≡ (codes "{\n    use }", (1 ∷ []) ∷ (2 ∷ []) ∷ (3 ∷ []) ∷ [])
unfolding chars
new_line_after_an_opening_brace = refl

new_lines_round_a_new_attribute : outcome (inserted (After (in_tree tree_hash_fn (0 ∷ []))) hash) tree_hash_fn ≡ (codes "#\n#\nfn", (1 ∷ []) ∷ (2 ∷ []) ∷ (3 ∷ []) ∷ [])
unfolding chars
new_lines_round_a_new_attribute = refl

-- nothing goes round no elements
no_elements : recorded (spaced_insert 20 (After (R (2 ∷ []))) []) [] ≡ InsertAll (After (R (2 ∷ []))) [] ∷ []
no_elements = refl

no_elements_outcome : outcome (recorded (spaced_insert 20 (After (R (2 ∷ []))) []) []) tree_L ≡ (codes "(1, 2)", [])
no_elements_outcome = refl

-- ---- refused calls
-- J stands at level 255, and what opens it is one deeper
too_deep : spacing_refusal (element_of (in_tree tree_deep [])) 20 (After (in_tree tree_deep (1 ∷ 0 ∷ []))) (G ∷ []) ≡ Some LevelTooLarge
unfolding chars
too_deep = refl

-- two numbers are needed, and one or two are left
abbrev refusal_at : ℕ → Option RecordError
refusal_at number = spacing_refusal (element_of (in_tree tree_hash_fn [])) number (After (in_tree tree_hash_fn (0 ∷ []))) (hash ∷ [])

two_numbers_needed : numbers_needed (After (in_tree tree_hash_fn (0 ∷ []))) (hash ∷ []) ≡ 2
unfolding chars
two_numbers_needed = refl

numbers_spent : ◌≡◌ {A = List (Option RecordError)} (map refusal_at (18446744073709551614 ∷ 18446744073709551613 ∷ [])) (Some NoTreeNumber ∷ None ∷ [])
unfolding chars
numbers_spent = refl

position_elsewhere : spacing_refusal (element_of (R [])) 20 (FirstChild (element_of V)) (A3 ∷ []) ≡ Some Foreign
unfolding chars
position_elsewhere = refl
