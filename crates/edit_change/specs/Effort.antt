-- How many nodes a pass from the leaves up builds anew.
--     inside                        Those of some paths that begin with a slot, without that slot.
--     touched, touched_from         How many elements of a tree are above one of some paths, or at one; of children from a slot on.
--     parents_of                    The nodes whose child lists some aims alter.
use Rattle.std.specs.Prelude.{ℕ, suc, ◌+◌, nat_eq, cond, List, [], ◌∷◌, flat_map}
use Rattle.green_tree.specs.Path.{Path}
use Rattle.green_tree.specs.Tree.{Tree, Forest, Token, Node, end, more}
use Rattle.edit_change.specs.Aim.{parents}
use Rattle.edit_change.specs.Rewriting.{NumberedAim}

abbrev pub inside : ℕ → List Path → List Path
inside i [] = []
inside i ([] ∷ ps) = inside i ps
inside i ((j ∷ p) ∷ ps) = cond (nat_eq j i) (p ∷ inside i ps) (inside i ps)

abbrev mutual
  pub touched : {L : Type 0} → Tree L → List Path → ℕ
  touched t [] = 0
  touched (Token l s) (p ∷ ps) = 1
  touched (Node l f) (p ∷ ps) = 1 + touched_from 0 f (p ∷ ps)

  pub touched_from : {L : Type 0} → ℕ → Forest L → List Path → ℕ
  touched_from i end ps = 0
  touched_from i (more t f) ps = touched t (inside i ps) + touched_from (suc i) f ps

abbrev pub parents_of : List NumberedAim → List Path
parents_of cs = flat_map (λ c. parents c.1) cs
