-- The child in a slot, and the way down along a path.
use Rattle.std.proofs.Common.{◌≡◌, ℕ, ◌+◌, ◌<◌, ◌≤◌, zero, suc, List, [], ◌∷◌, length, get_or, drop, Option, Some, None, refl, subst, ◌∙◌, arith, add-one, drop-cons}
use Rattle.std.specs.Prelude.{IsSome, slice_get, option_and_then, option_map}
use Rattle.std.proofs.lemmas.Option.{slice_get-map, slice_get_read, slice_get_within, get_or_from_slice_get}
use Rattle.green_tree.specs.Path.{Path}
use Rattle.green_tree.specs.Tree.{Forest, SyntaxTree, end, more, at, trees, forest}
use Rattle.green_tree.specs.Green.{Branch, branch_tree}
use Rattle.green_tree.specs.inner.TreeSize.{size, forest_size}
use Rattle.green_tree.specs.GreenElement.{element_trees, element_tree}
use Rattle.green_tree.specs.declared.green.GreenElement.{GreenElement}
use Rattle.green_tree.proofs.Lookup.{at-child, trees-forest}

-- a child is smaller than its node
pub size_at : (es : List GreenElement) (i : ℕ) (e : GreenElement) → i < length es → e ≡ get_or es i e → size (element_tree e) ≤ forest_size (forest (element_trees es))
size_at [] i e h is = absurd (omega arith)
size_at (x ∷ es) zero e h is = rw is (omega arith)
size_at (x ∷ es) (suc i) e h is = omega (arith, size_at es i e (omega arith) is)

pub size_in : (f : Forest ℕ) (i : ℕ) (c : SyntaxTree) → slice_get (trees f) i ≡ Some c → size c ≤ forest_size f
size_in end i c there = absurd (cc)
size_in (more t f) zero c there =
    let same : t ≡ c = cc in
    rw same (omega arith)
size_in (more t f) (suc i) c there = omega (arith, size_in f i c there)

-- what is known of the child in the first slot of a path that leads to an element
pub record IsOnTheWay (es : List GreenElement) (i : ℕ) (p : Path) : Type 0 where
  pub inside : i < length es
  pub below : (e : GreenElement) → e ≡ get_or es i e → IsSome (at (element_tree e) p)

on_the_way : (es : List GreenElement) (i : ℕ) (p : Path) (o : Option GreenElement) → slice_get es i ≡ o → IsSome (option_and_then (λ c. at c p) (option_map element_tree o)) → IsOnTheWay es i p
on_the_way es i p None q h = absurd (cc)
on_the_way es i p (Some x) q h = record {
  inside = slice_get_within es i x q;
  below = λ e is. rw (is ∙ get_or_from_slice_get es i x e q) h;
}

pub way_down : (b : Branch) (es : List GreenElement) (i : ℕ) (p : Path) → element_trees es ≡ b.children → IsSome (at (branch_tree b) (i ∷ p)) → IsOnTheWay es i p
way_down b es i p same h = on_the_way es i p (slice_get es i) refl (subst (λ o. IsSome o) (at-child b es i p same) h)

-- one step of a walk along a path
pub step_down : (b : Branch) (es : List GreenElement) (path : Path) (n : ℕ) → element_trees es ≡ b.children → n < length path → IsSome (at (branch_tree b) (drop n path)) → IsOnTheWay es (get_or path n 0) (drop (n + 1) path)
step_down b es path n same h there = rw add-one (way_down b es (get_or path n 0) (drop (suc n) path) same (subst (λ p. IsSome (at (branch_tree b) p)) (drop-cons path n 0 h) there))

-- the tree of the child in a slot
pub slice_get-child : (b : Branch) (es : List GreenElement) (i : ℕ) (e : GreenElement) → element_trees es ≡ b.children → i < length es → e ≡ get_or es i e → slice_get (trees (forest b.children)) i ≡ Some (element_tree e)
slice_get-child b es i e same h is = rw (trees-forest, ← same, slice_get-map, slice_get_read es (length es) i e refl h is)

-- a path with no slot
pub path_ends : (p : Path) → length p < 1 → p ≡ []
path_ends [] h = refl
path_ends (i ∷ p) h = absurd (omega arith)
