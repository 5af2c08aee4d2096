-- A walk that takes the last of a list, and puts what is below it at the list's end, the first one last.
use Rattle.std.proofs.Common.{◌≡◌, ℕ, ◌+◌, ◌-◌, ◌<◌, ◌≤◌, List, [], ◌∷◌, ◌++◌, length, get_or, take, drop, refl, ap, arith}
use Rattle.std.specs.Prelude.{flat_map, reverse, sum_by}
use Rattle.std.proofs.lemmas.List.{reverse-append, reverse-reverse, take_all}
use Rattle.std.proofs.lemmas.List.Sums.{sum_by-append}
use Rattle.std.proofs.lemmas.Grind.{flat_map-append}
use Rattle.green_tree.specs.Tree.{forest}
use Rattle.green_tree.specs.GreenElement.{element_tree, element_trees}
use Rattle.green_tree.specs.inner.TreeSize.{size, forest_size}
use Rattle.green_tree.specs.declared.green.GreenElement.{GreenElement}

pub next_listed : {X Y : Type 0} (f : X → List Y) (x : X) (below : List X) (y : Y) (rest : List X) → f x ≡ y ∷ flat_map f below → flat_map f (reverse (rest ++ x ∷ [])) ≡ y ∷ flat_map f (reverse (rest ++ reverse below))
next_listed f x below y rest is = rw (reverse-append rest (x ∷ []), reverse-append rest (reverse below), reverse-reverse below, flat_map-append f below (reverse rest)) (ap (λ l. l ++ flat_map f (reverse rest)) is)

pub sum_by-last : {X : Type 0} (f : X → ℕ) (xs : List X) (x : X) → sum_by f (xs ++ x ∷ []) ≡ sum_by f xs + f x
sum_by-last f xs x =
    let one : sum_by f (x ∷ []) ≡ 0 + f x = refl in
    omega (arith, sum_by-append f xs (x ∷ []), one)

-- how many elements are in the first of a list, and in the rest of it
pub sizes_first : (es : List GreenElement) (e : GreenElement) → 1 ≤ length es → e ≡ get_or es 0 e → forest_size (forest (element_trees es)) ≡ size (element_tree e) + forest_size (forest (element_trees (take (length es - 1) (drop 1 es))))
sizes_first [] e h is = absurd (omega arith)
sizes_first (x ∷ es) e h is = rw (take_all (length (x ∷ es) - 1) es (omega arith), is) refl

-- what is done less: the last of a list goes, and one or two that are less together come
pub one_for : {X : Type 0} (f : X → ℕ) (xs : List X) (x y : X) (old new : List X) → old ≡ xs ++ x ∷ [] → new ≡ xs ++ y ∷ [] → f y < f x → sum_by f new < sum_by f old
one_for f xs x y old new o n h = rw (o, n) (omega (arith, sum_by-last f xs x, sum_by-last f xs y))

pub two_for : {X : Type 0} (f : X → ℕ) (xs : List X) (x y z : X) (old mid new : List X) → old ≡ xs ++ x ∷ [] → mid ≡ xs ++ y ∷ [] → new ≡ mid ++ z ∷ [] → f y + f z < f x → sum_by f new < sum_by f old
two_for f xs x y z old mid new o m n h = rw (o, n, m) (omega (arith, sum_by-last f xs x, sum_by-last f (xs ++ y ∷ []) z, sum_by-last f xs y))
