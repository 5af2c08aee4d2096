-- Worked examples of orders, and of stages on the way.
use Rattle.std.specs.Prelude.{◌≡◌, ℕ, List, [], ◌∷◌, ◌<◌, codes, flat_map, map, refl, Bool, true, false, nat_eq}
use Rattle.std.specs.List.{enumerate_from}
use Rattle.std.proofs.Common.{arith, sym}
use Rattle.cst_core.specs.Tree.{text}
use Rattle.edit_map.proofs.RowTrees.{tree_BB}
use Rattle.edit_map.proofs.Rows.{R, BB}
use Rattle.edit_change.specs.NewTree.{stage_tree, stage_payload}
use Rattle.edit_steps.specs.DefaultOrder.{default_first}
use Rattle.edit_change.specs.Nesting.{Numbered}
use Rattle.edit_steps.specs.Schedule.{ListsEachOnce, respects, owned_first, gap_first, token_first, IsAllowed, is_ready}
use Rattle.edit_change.specs.declared.change.Change.{Change}
use Rattle.edit_plan.proofs.RowChanges.{no_places}
use Rattle.edit_plan.proofs.Rows.{changes_before_both_literals, changes_in_a_block, changes_in_a_wrapped_block, places_in_a_wrapped_block, changes_wrapping_twice, changes_after_a_deleted_node, changes_after_a_deleted_token, changes_in_one_gap, changes_of_a_comma}

-- ---- orders
abbrev only_one : ℕ → ℕ → Bool
only_one c d = nat_eq c d

-- the orders that keep to a test
abbrev kept_by : (Numbered → Numbered → Bool) → List Change → List (List ℕ) → List Bool
kept_by first cs orders = map (respects first cs) orders

owner_comes_last : kept_by (owned_first changes_in_a_wrapped_block) changes_in_a_wrapped_block ((0 ∷ 1 ∷ 2 ∷ []) ∷ (1 ∷ 0 ∷ 2 ∷ []) ∷ (2 ∷ 0 ∷ 1 ∷ []) ∷ []) ≡ true ∷ true ∷ false ∷ []
owner_comes_last = refl

two_gaps_in_any_order_below_an_owner : kept_by gap_first changes_in_a_wrapped_block ((0 ∷ 1 ∷ 2 ∷ []) ∷ (1 ∷ 0 ∷ 2 ∷ []) ∷ []) ≡ true ∷ true ∷ []
two_gaps_in_any_order_below_an_owner = refl

replaced_token_comes_last : kept_by token_first changes_after_a_deleted_token ((1 ∷ 0 ∷ []) ∷ (0 ∷ 1 ∷ []) ∷ []) ≡ true ∷ false ∷ []
replaced_token_comes_last = refl

one_gap_from_the_back : kept_by gap_first changes_in_one_gap ((1 ∷ 0 ∷ []) ∷ (0 ∷ 1 ∷ []) ∷ []) ≡ true ∷ false ∷ []
one_gap_from_the_back = refl

two_gaps_in_any_order : kept_by gap_first changes_in_a_block ((0 ∷ 1 ∷ []) ∷ (1 ∷ 0 ∷ []) ∷ []) ≡ true ∷ true ∷ []
two_gaps_in_any_order = refl

owner_of_an_owner_comes_last : kept_by (owned_first changes_wrapping_twice) changes_wrapping_twice ((0 ∷ 1 ∷ 2 ∷ []) ∷ (0 ∷ 2 ∷ 1 ∷ []) ∷ []) ≡ true ∷ false ∷ []
owner_of_an_owner_comes_last = refl

replaced_comma_comes_last : kept_by token_first changes_of_a_comma ((1 ∷ 0 ∷ []) ∷ (0 ∷ 1 ∷ []) ∷ []) ≡ true ∷ false ∷ []
replaced_comma_comes_last = refl

-- from the last in the document to the first
default_from_the_back : kept_by default_first changes_before_both_literals ((1 ∷ 0 ∷ []) ∷ (0 ∷ 1 ∷ []) ∷ []) ≡ true ∷ false ∷ []
default_from_the_back = refl

default_in_a_wrapped_block : kept_by default_first changes_in_a_wrapped_block ((1 ∷ 0 ∷ 2 ∷ []) ∷ (0 ∷ 1 ∷ 2 ∷ []) ∷ []) ≡ true ∷ false ∷ []
default_in_a_wrapped_block = refl

default_after_a_deleted_token : kept_by default_first changes_after_a_deleted_token ((1 ∷ 0 ∷ []) ∷ (0 ∷ 1 ∷ []) ∷ []) ≡ true ∷ false ∷ []
default_after_a_deleted_token = refl

default_in_one_gap : kept_by default_first changes_in_one_gap ((1 ∷ 0 ∷ []) ∷ (0 ∷ 1 ∷ []) ∷ []) ≡ true ∷ false ∷ []
default_in_one_gap = refl

-- both allowed orders in a wrapped block
one_order_is_allowed : IsAllowed changes_in_a_wrapped_block (0 ∷ 1 ∷ 2 ∷ [])
one_order_is_allowed = record { each_once = λ n. refl; owned_changes_first = refl; gaps_in_order = refl; tokens_last = refl }

other_order_is_allowed : IsAllowed changes_in_a_wrapped_block (1 ∷ 0 ∷ 2 ∷ [])
other_order_is_allowed = record { each_once = λ n. omega arith; owned_changes_first = refl; gaps_in_order = refl; tokens_last = refl }

-- an order that leaves a change out, and one with a dropped change
different : (m n : ℕ) → m < n → ◌≡◌ {A = ℕ} m n → ⊥
different m n less e = omega (arith, less, e)

no_change_is_left_out : ListsEachOnce changes_in_a_wrapped_block (0 ∷ 2 ∷ []) → ⊥
no_change_is_left_out each = different 0 1 (omega arith) (each 1)

dropped_change_is_left_out : ListsEachOnce changes_after_a_deleted_node (0 ∷ [])
dropped_change_is_left_out n = refl

dropped_change_in_no_order : ListsEachOnce changes_after_a_deleted_node (0 ∷ 1 ∷ []) → ⊥
dropped_change_in_no_order each = different 0 1 (omega arith) (sym (each 1))

-- ---- stages
abbrev both : ℕ → Bool
both c = true

stages_of_two_inserts : ◌≡◌ {A = List (List ℕ)} (flat_map text (stage_tree changes_before_both_literals no_places (only_one 1) (R [])) ∷ flat_map text (stage_tree changes_before_both_literals no_places both (R [])) ∷ []) (codes "(1, ()2)" ∷ codes "(()1, ()2)" ∷ [])
stages_of_two_inserts = refl

-- once change 1 is done
stage_of_a_wrapped_block : ◌≡◌ {A = List (List ℕ)} (flat_map text (stage_tree changes_in_a_wrapped_block places_in_a_wrapped_block (only_one 1) (BB [])) ∷ flat_map text (stage_payload changes_in_a_wrapped_block places_in_a_wrapped_block (only_one 1) 2) ∷ []) (text tree_BB ∷ codes "{\n    {\n    let second = 2;let third = 3;\n}\n}" ∷ [])
stage_of_a_wrapped_block = refl

ready_in_a_wrapped_block : map (is_ready changes_in_a_wrapped_block (only_one 1)) (enumerate_from 0 changes_in_a_wrapped_block) ≡ true ∷ false ∷ false ∷ []
ready_in_a_wrapped_block = refl
