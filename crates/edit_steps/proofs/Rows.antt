-- The examples of docs/DEFINITIONS.md, computed.
use Rattle.std.specs.Prelude.{◌≡◌, cond, [], ◌∷◌, Some, None, refl}
use Rattle.green_tree.specs.Path.{Path, same_path}
use Rattle.green_tree.specs.Tree.{SyntaxTree, Token, node}
use Rattle.edit_change.specs.Aim.{AfterElement}
use Rattle.edit_change.specs.declared.aimed.AimForm.TheVariants as form
use Rattle.edit_steps.specs.StepCount.{step_builds}
use Rattle.edit_steps.specs.declared.stage.among.Among.TheVariants.{Gap, Slots}
use Rattle.edit_steps.specs.inner.Widths.{width_in, gap_in, Held, nothing_put, start}
use Rattle.edit_steps.specs.inner.Putting.{current_path}
use Rattle.edit_steps.specs.inner.AimTargets.{live_target}

-- the tree `L`, its kinds numbered in the order in which they come
abbrev l : SyntaxTree
l = node 1 (Token 2 (40 ∷ []) ∷ node 3 (Token 4 (49 ∷ []) ∷ []) ∷ Token 5 (44 ∷ []) ∷ Token 6 (32 ∷ []) ∷ node 3 (Token 4 (50 ∷ []) ∷ []) ∷ Token 7 (41 ∷ []) ∷ [])

two_built : step_builds l (AfterElement (1 ∷ 0 ∷ [])) ≡ 2
two_built = refl

none_built : step_builds l (AfterElement (2 ∷ 0 ∷ [])) ≡ 0
none_built = refl

-- L/2 is deleted, and two elements are put into gap 1
abbrev at_top : Held
at_top = record { widths = width_in (1 ∷ 3 ∷ 0 ∷ []); gaps = gap_in (0 ∷ 2 ∷ []) }

abbrev held : Path → Held
held p = cond (same_path p []) at_top nothing_put

first_literal : start at_top (Slots 1 1) ≡ 3
first_literal = refl

second_literal : start at_top (Slots 4 1) ≡ 5
second_literal = refl

same_gap : start at_top (Gap 1) ≡ 1
same_gap = refl

moved : current_path held (4 ∷ 0 ∷ []) ≡ 5 ∷ 0 ∷ []
moved = refl

-- three siblings from L/4 on
two_there : live_target l (4 ∷ []) (form.Over 3) ≡ Some ([], Slots 4 2)
two_there = refl

none_there : live_target l (2 ∷ 0 ∷ []) form.AfterElement ≡ None
none_there = refl
