-- The trees of a forest, and what stands in a slot.
use Rattle.std.specs.Prelude.{◌≡◌, ℕ, true, false, cond, List, [], ◌∷◌, flat_map, refl}
use Rattle.std.proofs.Common.{ap, sym}
use Rattle.green_tree.specs.Path.{Path}
use Rattle.green_tree.specs.Tree.{Tree, trees, forest}
use Rattle.edit_change.specs.Rewriting.{NumberedAim, replacements_at, is_replaced, slot}

pub trees-forest : {L : Type 0} (ts : List (Tree L)) → trees (forest ts) ≡ ts
trees-forest [] = refl
trees-forest (t ∷ ts) = ap (λ us. t ∷ us) (trees-forest ts)

module _ {L : Type 0} (label_at : Path → ℕ → L) (given : ℕ → List (Tree L)) (cs : List NumberedAim) where
  pub slot-replaced : (p : Path) (t : Tree L) → is_replaced cs p ≡ true → flat_map given (replacements_at cs p) ≡ slot label_at given cs p t
  slot-replaced p t h = ap (λ b. cond b (flat_map given (replacements_at cs p)) (t ∷ [])) (sym h)

  pub slot-kept : (p : Path) (t : Tree L) → is_replaced cs p ≡ false → t ∷ [] ≡ slot label_at given cs p t
  slot-kept p t h = ap (λ b. cond b (flat_map given (replacements_at cs p)) (t ∷ [])) (sym h)
