-- How many nodes are built where one change is carried out.
--     is_child, is_live             A path leads to an element below the top; an aim leads to a gap or a slot that is there.
--     step_builds                   How many nodes are built where one aim is carried out: the altered node and those above it, none if the
--                                   aim is not live.
--
-- In `L` an insert after `L/1/0` builds 2 nodes, and one after `L/2/0` none, since `L/2` is a token.
use Rattle.std.specs.Prelude.{◌+◌, ℕ, Bool, true, false, cond, not, [], ◌∷◌, length, sum_by}
use Rattle.std.specs.Option.{option_map_or}
use Rattle.green_tree.specs.Path.{Path}
use Rattle.green_tree.specs.Tree.{SyntaxTree, is_token, at}
use Rattle.edit_change.specs.Aim.{Aim, FirstIn, AfterElement, Over, parents}

abbrev pub is_child : SyntaxTree → Path → Bool
is_child t [] = false
is_child t (i ∷ p) = option_map_or (λ e. true) (at t (i ∷ p)) false

abbrev pub is_live : SyntaxTree → Aim → Bool
is_live t (FirstIn p) = option_map_or (λ e. not (is_token e)) (at t p) false
is_live t (AfterElement p) = is_child t p
is_live t (Over []) = false
is_live t (Over (p ∷ ps)) = is_child t p

-- those at and above the node whose children it alters
abbrev pub step_builds : SyntaxTree → Aim → ℕ
step_builds t a = cond (is_live t a) (sum_by (λ p. length p + 1) (parents a)) 0
