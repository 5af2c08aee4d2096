-- Where an aim alters the children of a node of a tree, if it does.
--     count_in, child_count          how many children a node has; the node at a path: nothing where there is no node
--     Child, child_in, child_at      a child by its parent and slot, with how many children there are from it on; that in a slot; that at a path
--     child_of                       that of one in code
--     Site, site_of                  a node by its path, and where among its children; that of a target in code
--     live_target                    of an aim: its node, and the gap or the slots that are there
use Rattle.std.specs.Prelude.{◌-◌, ℕ, zero, suc, cond, nat_lt, min, [], ◌∷◌, length, Option, Some, None, option_map, option_and_then}
use Rattle.green_tree.specs.Path.{Path, parent_path, last_slot}
use Rattle.green_tree.specs.Tree.{Token, Node, SyntaxTree, trees, at}
use Rattle.edit_change.specs.declared.aimed.AimForm.{AimForm}
use Rattle.edit_change.specs.declared.aimed.AimForm.TheVariants.{FirstIn, AfterElement, Over}
use Rattle.edit_steps.specs.declared.stage.among.Among.{Among}
use Rattle.edit_steps.specs.declared.stage.among.Among.TheVariants.{Gap, Slots}
use Rattle.edit_steps.specs.declared.stage.aim_target.OldChild.{OldChild}
use Rattle.edit_steps.specs.declared.stage.aim_target.AimTarget.{AimTarget}

abbrev pub count_in : SyntaxTree → Option ℕ
count_in (Token k s) = None
count_in (Node k f) = Some (length (trees f))

abbrev pub child_count : SyntaxTree → Path → Option ℕ
child_count t p = option_and_then count_in (at t p)

-- ---- a child
pub record Child : Type 0 where
  pub parent : Path
  pub slot : ℕ
  pub left : ℕ

abbrev pub child_of : OldChild → Child
child_of c = record { parent = c.parent.now; slot = c.slot; left = c.left }

abbrev pub child_in : Path → ℕ → ℕ → Option Child
child_in p i count = cond (nat_lt i count) (Some (record { parent = p; slot = i; left = count - i })) None

abbrev pub child_at : SyntaxTree → Path → Option Child
child_at t [] = None
child_at t (i ∷ p) = option_and_then (child_in (parent_path (i ∷ p)) (last_slot (i ∷ p))) (child_count t (parent_path (i ∷ p)))

-- ---- an aim
abbrev pub Site : Type 0
Site = Path × Among

abbrev pub site_of : AimTarget → Site
site_of a = (a.parent.now, a.at)

abbrev pub live_target : SyntaxTree → Path → AimForm → Option Site
live_target t p FirstIn = option_map (λ count. (p, Gap 0)) (child_count t p)
live_target t p AfterElement = option_map (λ c. (c.parent, Gap (suc c.slot))) (child_at t p)
live_target t p (Over zero) = None
live_target t p (Over (suc n)) = option_map (λ c. (c.parent, Slots c.slot (min (suc n) c.left))) (child_at t p)
