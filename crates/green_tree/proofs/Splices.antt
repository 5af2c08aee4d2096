-- A list that is cut and joined, and its element_trees.
use Rattle.std.proofs.Common.{◌≡◌, ℕ, ◌+◌, List, [], ◌∷◌, ◌++◌, take, drop, length, refl, ap, sym, ◌∙◌, zero, suc}
use Rattle.std.proofs.lemmas.List.{map-append, append_assoc, drop-drop, take-append-drop, map-id}
use Rattle.std.specs.List.{drop-map}
use Rattle.std.specs.Iterator.{Drains}
use Rattle.std.specs.Vec.Iter.{into_iter_items, into_iter_len, into_iter_steps}
use Rattle.std.specs.declared.vec.IntoIter.{IntoIter}
use Rattle.std.proofs.lemmas.Iterator.{items_from_drains}
use Rattle.std.proofs.lemmas.Iterator.Adapters.{YieldsList-from_vec}
use Rattle.green_tree.specs.GreenElement.{element_trees, element_tree}
use Rattle.green_tree.specs.declared.green.GreenElement.{GreenElement}

pub take-trees : (n : ℕ) (es : List GreenElement) → take n (element_trees es) ≡ element_trees (take n es)
take-trees zero es = refl
take-trees (suc n) [] = refl
take-trees (suc n) (e ∷ es) = ap (λ r. element_tree e ∷ r) (take-trees n es)

pub trees-splice : (s e : ℕ) (es new : List GreenElement) → element_trees (take s es ++ new ++ drop e es) ≡ take s (element_trees es) ++ element_trees new ++ drop e (element_trees es)
trees-splice s e es new = simp (map-append, drop-map, take-trees)

-- a list from its three parts
pub three-parts : {X : Type 0} (a n : ℕ) (xs : List X) → take a xs ++ take n (drop a xs) ++ drop (a + n) xs ≡ xs
three-parts a n xs =
    append_assoc (take a xs) (take n (drop a xs)) (drop (a + n) xs)
    ∙ ap (λ ys. take a xs ++ (take n (drop a xs) ++ ys)) (sym (drop-drop n a xs))
    ∙ ap (λ ys. take a xs ++ ys) (take-append-drop n (drop a xs))
    ∙ take-append-drop a xs

-- what a `splice` puts in, of a vector
pub spliced-items : {A Z : Type 0} (s : IntoIter A Z) (xs ys : List A) → into_iter_items s ≡ ys → into_iter_len s ≡ length ys → Drains (into_iter_steps {X = A} {Z = Z}) s xs → xs ≡ ys
spliced-items s xs ys items long ran = sym (map-id xs) ∙ items_from_drains xs (ran.1.0, ran.1.1, λ _. (ran.0, ran.1.2)) (YieldsList-from_vec ys items long)
