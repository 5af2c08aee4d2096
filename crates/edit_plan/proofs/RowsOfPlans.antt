-- Worked examples of whole answers: what plans make, with their places, and changes without one.
use Rattle.std.specs.Prelude.{◌≡◌, ℕ, List, [], ◌∷◌, refl, ◌<◌, zero, suc, None}
use Rattle.std.proofs.Common.{arith}
use Rattle.std.proofs.lemmas.Option.{none-some}
use Rattle.std.proofs.lemmas.List.Elements.{All-from_recursion}
use Rattle.cst_core.specs.Tree.{Token}
use Rattle.cst_core.specs.Element.{address}
use Rattle.edit_map.specs.Mapping.{IsRising}
use Rattle.edit_map.proofs.Places.{StandsFor-unique}
use Rattle.edit_map.proofs.Rows.{R, BB, M, NM, NR, N7, A3, mapping_of_wrapping, place_in_a_wrapping_block, mapping_of_extracting, place_in_the_block_of_an_extracted_variable, mapping_shared, no_place_where_the_copy_is_the_payload, unmapped}
use Rattle.edit_change.specs.NewTree.{OriginTree, is_free, new_tree}
use Rattle.edit_change.specs.Places.{FindsPlace, IsUnplaced, IsFirstUnplaced}
use Rattle.edit_plan.specs.Plan.{WouldMake}
use Rattle.edit_change.specs.Results.{changed, annotated}
use Rattle.edit_change.specs.declared.change.Change.{Change}
use Rattle.edit_plan.proofs.RowChanges.{after, first_in, insert, replace, E, X, V}
use Rattle.edit_plan.proofs.Rows.{changes_in_a_wrapped_block, places_in_a_wrapped_block, changes_extracting, places_extracting}

abbrev the_one : List OriginTree → OriginTree
the_one [] = Token (record { kind = 0; address = record { number = 0; path = [] }; change = None }) []
the_one (t ∷ ts) = t

abbrev made_in_a_wrapped_block : OriginTree
made_in_a_wrapped_block = the_one (new_tree changes_in_a_wrapped_block places_in_a_wrapped_block (BB []))

would_move_into_a_wrapped_block : WouldMake (record { root = BB []; changes = changes_in_a_wrapped_block; registrations = []; mapping = mapping_of_wrapping }) made_in_a_wrapped_block
would_move_into_a_wrapped_block = record {
  places = places_in_a_wrapped_block;
  are_places = All-from_recursion (FindsPlace mapping_of_wrapping changes_in_a_wrapped_block places_in_a_wrapped_block) changes_in_a_wrapped_block (((place_in_a_wrapping_block, refl), λ e _. cc), (((place_in_a_wrapping_block, refl), λ e _. cc), (tt, tt)));
  is_new = refl;
}

changed_in_a_wrapped_block : changed (is_free changes_in_a_wrapped_block) made_in_a_wrapped_block ≡ (0 ∷ 2 ∷ []) ∷ []
changed_in_a_wrapped_block = refl

-- two annotated elements, one followed to its copy
abbrev made_by_extracting : OriginTree
made_by_extracting = the_one (new_tree changes_extracting places_extracting (M []))

would_extract : WouldMake (record { root = M []; changes = changes_extracting; registrations = []; mapping = mapping_of_extracting }) made_by_extracting
would_extract = record {
  places = places_extracting;
  are_places = All-from_recursion (FindsPlace mapping_of_extracting changes_extracting places_extracting) changes_extracting (((place_in_the_block_of_an_extracted_variable, refl), λ e _. cc), (tt, tt));
  is_new = refl;
}

changed_by_extracting : changed (is_free changes_extracting) made_by_extracting ≡ (4 ∷ []) ∷ []
changed_by_extracting = refl

annotated_by_extracting : annotated mapping_of_extracting ((NM, 1) ∷ (NR, 1) ∷ []) made_by_extracting ≡ (1, 4 ∷ 0 ∷ 2 ∷ 2 ∷ 0 ∷ []) ∷ (1, 4 ∷ 0 ∷ 4 ∷ 1 ∷ []) ∷ []
annotated_by_extracting = refl

-- ---- changes without a place
nothing_rises : IsRising []
nothing_rises k d h = absurd (omega (arith, h))

not_below_0 : {A : Type 0} (n : ℕ) → n < 0 → A
not_below_0 n h = absurd (omega (arith, h))

-- a node replaced by itself takes an insert after it nowhere ..
abbrev changes_after_itself : List Change
changes_after_itself = replace (R (1 ∷ [])) (R (1 ∷ [])) ∷ insert (after (R (1 ∷ []))) X ∷ []

unplaced_after_itself : IsUnplaced [] changes_after_itself 1 0
unplaced_after_itself =
    (refl, λ place h. h.1 (StandsFor-unique [] nothing_rises (address (R (1 ∷ []))) place [] (address (R (1 ∷ []))) h.0.0 refl) refl)

-- .. and it is the least such change, as the replacement has no owner
first_unplaced_after_itself : IsFirstUnplaced [] changes_after_itself 1 0
first_unplaced_after_itself = record { unplaced = unplaced_after_itself; first = earlier }
  where
    earlier : (j e : ℕ) → j < 1 → IsUnplaced [] changes_after_itself j e → ⊥
    earlier zero e h u = none-some e u.0
    earlier (suc j) e h u = omega (arith, h)

one_not_five : ◌≡◌ {A = ℕ} 1 5 → ⊥
one_not_five e = omega (arith, e)

one_not_six : ◌≡◌ {A = ℕ} 1 6 → ⊥
one_not_six e = omega (arith, e)

unplaced_below_an_unmapped_target : IsFirstUnplaced [] (replace (R (1 ∷ 0 ∷ [])) X ∷ replace (R (1 ∷ [])) A3 ∷ []) 0 1
unplaced_below_an_unmapped_target = record { unplaced = (refl, λ place h. unmapped (address A3) (address (R (1 ∷ []))) one_not_five place h.0.0); first = λ j e h u. not_below_0 j h }

-- the owner recorded first
abbrev changes_owner_first : List Change
changes_owner_first = replace (R (1 ∷ [])) A3 ∷ replace (R (1 ∷ 0 ∷ [])) X ∷ []

unplaced_where_the_owner_is_first : IsFirstUnplaced [] changes_owner_first 1 0
unplaced_where_the_owner_is_first = record { unplaced = (refl, λ place h. unmapped (address A3) (address (R (1 ∷ []))) one_not_five place h.0.0); first = earlier }
  where
    earlier : (j e : ℕ) → j < 1 → IsUnplaced [] changes_owner_first j e → ⊥
    earlier zero e h u = none-some e u.0
    earlier (suc j) e h u = omega (arith, h)

-- a copy that is the payload itself
unplaced_where_the_copy_is_the_payload : IsFirstUnplaced mapping_shared (insert (first_in (R (1 ∷ []))) X ∷ replace (R (1 ∷ [])) (N7 (1 ∷ [])) ∷ []) 0 1
unplaced_where_the_copy_is_the_payload = record { unplaced = (refl, λ place h. no_place_where_the_copy_is_the_payload place h.0.0); first = λ j e h u. not_below_0 j h }

-- after a replaced empty node, and first in a replaced root
abbrev changes_after_empty : List Change
changes_after_empty = replace (E (1 ∷ [])) V ∷ insert (after (E (1 ∷ []))) X ∷ []

unplaced_after_a_replaced_empty_node : IsFirstUnplaced [] changes_after_empty 1 0
unplaced_after_a_replaced_empty_node = record { unplaced = (refl, λ place h. unmapped (address V) (address (E (1 ∷ []))) one_not_six place h.0.0); first = earlier }
  where
    earlier : (j e : ℕ) → j < 1 → IsUnplaced [] changes_after_empty j e → ⊥
    earlier zero e h u = none-some e u.0
    earlier (suc j) e h u = omega (arith, h)

abbrev changes_in_root : List Change
changes_in_root = replace (R []) V ∷ insert (first_in (R [])) X ∷ []

unplaced_in_a_replaced_root : IsFirstUnplaced [] changes_in_root 1 0
unplaced_in_a_replaced_root = record { unplaced = (refl, λ place h. unmapped (address V) (address (R [])) one_not_six place h.0.0); first = earlier }
  where
    earlier : (j e : ℕ) → j < 1 → IsUnplaced [] changes_in_root j e → ⊥
    earlier zero e h u = none-some e u.0
    earlier (suc j) e h u = omega (arith, h)

-- of two, the least counts
abbrev changes_two_unplaced : List Change
changes_two_unplaced = insert (first_in (R (1 ∷ []))) X ∷ insert (first_in (R (4 ∷ []))) X ∷ replace (R (1 ∷ [])) A3 ∷ replace (R (4 ∷ [])) A3 ∷ []

second_of_two_unplaced : IsUnplaced [] changes_two_unplaced 1 3
second_of_two_unplaced = (refl, λ place h. unmapped (address A3) (address (R (4 ∷ []))) one_not_five place h.0.0)

least_of_two_unplaced_is_first : IsFirstUnplaced [] changes_two_unplaced 0 2
least_of_two_unplaced_is_first = record { unplaced = (refl, λ place h. unmapped (address A3) (address (R (1 ∷ []))) one_not_five place h.0.0); first = λ j e h u. not_below_0 j h }
