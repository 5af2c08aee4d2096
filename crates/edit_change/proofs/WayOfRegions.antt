-- The paths on the way to a child.
--     up_to-push                    those on the way to its parent, and its own
use Rattle.std.specs.Prelude.{◌≡◌, ℕ, [], ◌∷◌, ◌++◌, map, refl}
use Rattle.std.proofs.Common.{ap, ◌∙◌}
use Rattle.std.proofs.lemmas.List.{map-append}
use Rattle.cst_core.specs.Path.{Path, above, up_to}

above-push : (p : Path) (i : ℕ) → above (p ++ i ∷ []) ≡ up_to p
above-push [] i = refl
above-push (j ∷ p) i = ap (λ ps. [] ∷ map (λ q. j ∷ q) ps) (above-push p i) ∙ ap (λ ps. [] ∷ ps) (map-append (λ q. j ∷ q) (above p) (p ∷ []))

pub up_to-push : (p : Path) (i : ℕ) → up_to (p ++ i ∷ []) ≡ up_to p ++ (p ++ i ∷ []) ∷ []
up_to-push p i = ap (λ ps. ps ++ (p ++ i ∷ []) ∷ []) (above-push p i)
