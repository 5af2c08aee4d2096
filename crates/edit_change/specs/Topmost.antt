-- The topmost elements of a tree that pass a test of their label.
--     holds_at, parent_holds        The label at a path passes a test; the label of its parent does. The top has no parent.
--     topmost                       The paths, in document order, of the elements that pass a test and whose parents do not.
--     paths_of                      Paths in code.
--
-- Inserting one element first in `L/1` and replacing `L/4` by two: the topmost new elements are at `1/0`, `4` and `5`.
use Rattle.std.specs.Prelude.{ℕ, ◌&&◌, Bool, false, not, List, [], ◌∷◌, map, filter, Vec}
use Rattle.std.specs.Global.{Global}
use Rattle.std.specs.Option.{option_map_or}
use Rattle.green_tree.specs.Path.{Path, parent_path}
use Rattle.green_tree.specs.Tree.{Tree, label, at, paths}

abbrev pub holds_at : {L : Type 0} → (L → Bool) → Tree L → Path → Bool
holds_at test t p = option_map_or (λ e. test (label e)) (at t p) false

abbrev pub parent_holds : {L : Type 0} → (L → Bool) → Tree L → Path → Bool
parent_holds test t [] = false
parent_holds test t (i ∷ p) = holds_at test t (parent_path (i ∷ p))

abbrev pub topmost : {L : Type 0} → (L → Bool) → Tree L → List Path
topmost test t = filter (λ p. holds_at test t p && not (parent_holds test t p)) (paths t)

abbrev pub paths_of : List (Vec ℕ Global) → List Path
paths_of vs = map (λ v. v.items) vs
