-- Worked examples of positions and of the gaps that they are.
use Rattle.std.specs.Prelude.{◌≡◌, List, [], ◌∷◌, map, Option, Some, None, refl}
use Rattle.cst_core.specs.SyntaxElement.{syntax_of}
use Rattle.edit_map.proofs.Rows.{R}
use Rattle.edit_change.specs.Position as place
use Rattle.edit_change.specs.Aim.{Gap, gap_of}
use Rattle.edit_change.specs.ChangeAim.{position_aim}
use Rattle.edit_change.specs.declared.position.Position.{Position}
use Rattle.edit_change.specs.PositionForm.{FirstChild, After}
use Rattle.edit_plan.proofs.RowChanges.{E, after, before, last_in}

-- there is no gap beside a root
no_gap_beside_a_root : ◌≡◌ {A = List (Option Position)} (place.before (syntax_of (R [])) ∷ place.after (syntax_of (R [])) ∷ []) (None ∷ None ∷ [])
no_gap_beside_a_root = refl

before_a_child : ◌≡◌ {A = List Position} (before (R (0 ∷ [])) ∷ before (R (1 ∷ [])) ∷ []) (FirstChild (R []) ∷ After (syntax_of (R (0 ∷ []))) ∷ [])
before_a_child = refl

last_in_a_node : ◌≡◌ {A = List Position} (last_in (R []) ∷ last_in (E (1 ∷ [])) ∷ []) (After (syntax_of (R (5 ∷ []))) ∷ FirstChild (E (1 ∷ [])) ∷ [])
last_in_a_node = refl

gaps_of_positions : ◌≡◌ {A = List (Option Gap)} (map (λ p. gap_of (position_aim p)) (before (R (0 ∷ [])) ∷ after (R (3 ∷ [])) ∷ after (R (4 ∷ 0 ∷ [])) ∷ [])) (Some (record { node = []; index = 0 }) ∷ Some (record { node = []; index = 4 }) ∷ Some (record { node = 4 ∷ []; index = 1 }) ∷ [])
gaps_of_positions = refl
