-- The last slot of a path, and the path without it.
use Rattle.std.proofs.Common.{◌≡◌, ℕ, [], ◌∷◌, ◌++◌, refl, ap, Some}
use Rattle.green_tree.specs.Path.{Path, parent_path, last_slot}
use Rattle.cst_core.specs.Element.{Element, element_at, parent_of}

pub parent_path-push : (p : Path) (i : ℕ) → parent_path (p ++ i ∷ []) ≡ p
parent_path-push [] i = refl
parent_path-push (j ∷ []) i = refl
parent_path-push (j ∷ k ∷ p) i = ap (λ q. j ∷ q) (parent_path-push (k ∷ p) i)

pub last_slot-push : (p : Path) (i : ℕ) → last_slot (p ++ i ∷ []) ≡ i
last_slot-push [] i = refl
last_slot-push (j ∷ []) i = refl
last_slot-push (j ∷ k ∷ p) i = last_slot-push (k ∷ p) i

-- a path with slots is its parent's path and its last slot
pub parent-and-slot : (i : ℕ) (p : Path) → i ∷ p ≡ parent_path (i ∷ p) ++ last_slot (i ∷ p) ∷ []
parent-and-slot i [] = refl
parent-and-slot i (j ∷ p) = ap (λ q. i ∷ q) (parent-and-slot j p)

-- a path that is longer than another has a parent: that other
pub parent_of-push : (e : Element) (p : Path) (i : ℕ) → e.path ≡ p ++ i ∷ [] → parent_of e ≡ Some (element_at e p)
parent_of-push e [] i h = rw h
parent_of-push e (j ∷ p) i h = rw h (ap (λ q. Some (element_at e q)) (parent_path-push (j ∷ p) i))
