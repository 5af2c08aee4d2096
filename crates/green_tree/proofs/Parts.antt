-- The paths of the parts of a tree that meet a test, slot by slot.
use Rattle.std.proofs.Common.{◌≡◌, ℕ, zero, suc, Bool, true, false, cond, List, [], ◌∷◌, ◌++◌, map, drop, Some, refl, ap}
use Rattle.std.specs.Prelude.{slice_get, filter}
use Rattle.std.specs.Option.{option_map_or}
use Rattle.std.proofs.lemmas.List.Elements.{filter-append}
use Rattle.green_tree.specs.Path.{Path}
use Rattle.green_tree.specs.Tree.{Tree, Forest, Node, end, more, at, children, trees, paths, paths_from}

pub filter-map : {X Y : Type 0} (p : Y → Bool) (q : X → Bool) (f : X → Y) (xs : List X) → ((x : X) → p (f x) ≡ q x) → filter p (map f xs) ≡ map f (filter q xs)
filter-map p q f [] h = refl
filter-map p q f (x ∷ xs) h =
    rw (h x, filter-map p q f xs h) (elim (q x) as (λ b. cond b (f x ∷ map f (filter q xs)) (map f (filter q xs)) ≡ map f (cond b (x ∷ filter q xs) (filter q xs))) [ true ↦ refl | false ↦ refl ])

pub slice_get-drop : {X : Type 0} (xs ys : List X) (i : ℕ) (x : X) → drop i xs ≡ x ∷ ys → slice_get xs i ≡ Some x
slice_get-drop [] ys zero x h = absurd (cc)
slice_get-drop [] ys (suc i) x h = absurd (cc)
slice_get-drop (z ∷ xs) ys zero x h = cc
slice_get-drop (z ∷ xs) ys (suc i) x h = slice_get-drop xs ys i x h

pub drop-rest : {X : Type 0} (xs ys : List X) (i : ℕ) (x : X) → drop i xs ≡ x ∷ ys → drop (suc i) xs ≡ ys
drop-rest [] ys zero x h = absurd (cc)
drop-rest [] ys (suc i) x h = absurd (cc)
drop-rest (z ∷ xs) ys zero x h = cc
drop-rest (z ∷ xs) ys (suc i) x h = drop-rest xs ys i x h

-- the paths of the parts that pass the test, in document order
abbrev pub parts : {L : Type 0} → (Tree L → Bool) → Tree L → List Path
parts q t = filter (λ p. option_map_or q (at t p) false) (paths t)

-- the same of the children from a slot on
abbrev pub parts_from : {L : Type 0} → (Tree L → Bool) → ℕ → Forest L → List Path
parts_from q i end = []
parts_from q i (more c f) = map (λ p. i ∷ p) (parts q c) ++ parts_from q (suc i) f

pub parts-from : {L : Type 0} (q : Tree L → Bool) (t : Tree L) (i : ℕ) (f : Forest L) → drop i (children t) ≡ trees f → filter (λ p. option_map_or q (at t p) false) (paths_from i f) ≡ parts_from q i f
parts-from q t i end h = refl
parts-from q t i (more c f) h =
    let there : slice_get (children t) i ≡ Some c = slice_get-drop (children t) (trees f) i c h in
    let tests : (p : Path) → option_map_or q (at t (i ∷ p)) false ≡ option_map_or q (at c p) false = λ p. rw there in
    rw (filter-append (λ p. option_map_or q (at t p) false) (map (λ p. i ∷ p) (paths c)) (paths_from (suc i) f), filter-map (λ p. option_map_or q (at t p) false) (λ p. option_map_or q (at c p) false) (λ p. i ∷ p) (paths c) tests, parts-from q t (suc i) f (drop-rest (children t) (trees f) i c h))

-- of a node: the node itself where it passes, and then what its children have
pub parts-node : {L : Type 0} (q : Tree L → Bool) (l : L) (f : Forest L) → parts q (Node l f) ≡ cond (q (Node l f)) ([] ∷ parts_from q 0 f) (parts_from q 0 f)
parts-node q l f = ap (λ ps. cond (q (Node l f)) ([] ∷ ps) ps) (parts-from q (Node l f) 0 f refl)
