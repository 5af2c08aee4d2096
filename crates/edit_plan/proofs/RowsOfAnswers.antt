-- Worked examples of annotations, of nodes found again, and of the texts of changes.
use Rattle.std.specs.Prelude.{◌≡◌, ℕ, List, [], ◌∷◌, ◌++◌, codes, flat_map, map, Option, Some, None, refl}
use Rattle.cst_core.specs.Path.{Path}
use Rattle.cst_core.specs.Element.{Element, address}
use Rattle.edit_map.proofs.Rows.{R}
use Rattle.edit_change.specs.NewTree.{plain, new_tree}
use Rattle.edit_change.specs.Results.{annotated, paths_with, stand_in_path}
use Rattle.one_pass.specs.inner.Sought.{registered_at}
use Rattle.edit_change.specs.Display.{escape, change_text}
use Rattle.edit_change.specs.declared.change_text.Style.TheVariants.{Coloured, Plain}
use Rattle.edit_change.specs.declared.change.Change.{Change}
use Rattle.edit_plan.proofs.RowChanges.{no_places, after, insert, delete, replace, replace_with_many, replace_all, X}
use Rattle.edit_plan.proofs.Rows.{changes_before_both_literals}

-- ---- the paths of an annotation, where nothing is mapped
abbrev notes : List Element → List Change → List Path
notes es cs = flat_map (λ t. paths_with 1 (annotated [] (map (λ e. (e, 1)) es) t)) (new_tree cs no_places (R []))

notes_of_two : notes (R (4 ∷ []) ∷ R (1 ∷ []) ∷ []) [] ≡ (4 ∷ []) ∷ (1 ∷ []) ∷ []
notes_of_two = refl

note_of_a_deleted_element : notes (R (1 ∷ []) ∷ []) (delete (R (1 ∷ [])) ∷ []) ≡ []
note_of_a_deleted_element = refl

note_of_a_copied_element : notes (R (1 ∷ []) ∷ []) (insert (after (R (4 ∷ []))) (R (1 ∷ [])) ∷ []) ≡ (1 ∷ []) ∷ (5 ∷ []) ∷ []
note_of_a_copied_element = refl

note_of_an_exchanged_element : notes (R (1 ∷ []) ∷ []) (replace (R (1 ∷ [])) (R (4 ∷ [])) ∷ replace (R (4 ∷ [])) (R (1 ∷ [])) ∷ []) ≡ (4 ∷ []) ∷ []
note_of_an_exchanged_element = refl

note_of_a_moved_element : notes (R (4 ∷ []) ∷ []) (replace (R (1 ∷ [])) (R (4 ∷ [])) ∷ replace (R (4 ∷ [])) X ∷ []) ≡ (1 ∷ []) ∷ []
note_of_a_moved_element = refl

-- ---- the numbers of the registered elements at one of them
registered_there : registered_at (map address (R [] ∷ R (1 ∷ []) ∷ R (1 ∷ 0 ∷ []) ∷ R (1 ∷ []) ∷ [])) (address (R (1 ∷ []))) ≡ 1 ∷ 3 ∷ []
registered_there = refl

-- ---- a node found again in the new tree
root_found_again : ◌≡◌ {A = List (Option Path)} (flat_map (λ t. stand_in_path (R []) (plain t) ∷ stand_in_path (R (4 ∷ [])) (plain t) ∷ []) (new_tree changes_before_both_literals no_places (R []))) (Some [] ∷ None ∷ [])
root_found_again = refl

-- ---- texts
abbrev red : List ℕ → List ℕ
red s = escape ∷ codes "[41m" ++ s

abbrev green : List ℕ → List ℕ
green s = escape ∷ codes "[42m" ++ s

abbrev plain_again : List ℕ → List ℕ
plain_again s = escape ∷ codes "[0m" ++ escape ∷ codes "[K" ++ s

texts_of_a_deletion_and_an_insert : ◌≡◌ {A = List (List ℕ)} (map (change_text Coloured) (delete (R (1 ∷ [])) ∷ insert (after (R (0 ∷ []))) X ∷ [])) (red (codes "1" ++ plain_again []) ∷ (codes "(" ++ green (codes "x" ++ plain_again (codes "1, 2)"))) ∷ [])
texts_of_a_deletion_and_an_insert = refl

texts_of_ranges : ◌≡◌ {A = List (List ℕ)} (map (change_text Coloured) (replace_all (R (1 ∷ [])) (R (3 ∷ [])) [] ∷ replace_with_many (R (1 ∷ [])) [] ∷ [])) ((codes "(" ++ red (codes "1, " ++ green (plain_again (codes "2)")))) ∷ red (codes "1" ++ green (plain_again [])) ∷ [])
texts_of_ranges = refl

-- the same without the escape sequences
plain_texts : ◌≡◌ {A = List (List ℕ)} (map (change_text Plain) (insert (after (R (0 ∷ []))) X ∷ replace_all (R (1 ∷ [])) (R (3 ∷ [])) [] ∷ [])) (codes "(x1, 2)" ∷ codes "(1, 2)" ∷ [])
plain_texts = refl
