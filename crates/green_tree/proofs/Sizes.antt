-- How many elements parts of a list have.
use Rattle.std.proofs.Common.{◌≡◌, ℕ, ◌+◌, ◌*◌, ◌<◌, ◌≤◌, List, [], ◌∷◌, length, get_or, take, drop, refl, sym, ap, ◌∙◌, arith}
use Rattle.std.specs.Prelude.{sum_by, swap_remove}
use Rattle.std.proofs.lemmas.List.Sums.{sum_by-cons, sum_by-swap_remove, sum_by-take-le, sum_by-take-drop}
use denote.Param.Weighed.{most, w_this}
use Rattle.green_tree.specs.Tree.{forest}
use Rattle.green_tree.specs.GreenElement.{element_tree, element_trees}
use Rattle.green_tree.specs.inner.TreeSize.{size, forest_size}
use Rattle.green_tree.specs.declared.green.GreenElement.{GreenElement}
use Rattle.green_tree.specs.declared.green.GreenElement.TheVariants.{Node, Token, the_data}
use Rattle.green_tree.specs.declared.green.GreenNode.TheDeep.{size-GreenElement}

-- what the measure of a call that drops elements is, by the sizes of their trees
pub most_dropped : (es : List GreenElement) → most (w_this.weight the_data size-GreenElement) es ≤ 3 * forest_size (forest (element_trees es)) + 4
most_dropped [] = omega arith
most_dropped (Node b ∷ es) = omega (arith, most_dropped es)
most_dropped (Token l ∷ es) = omega (arith, most_dropped es)

sizes : (es : List GreenElement) → forest_size (forest (element_trees es)) ≡ sum_by (λ e. size (element_tree e)) es
sizes [] = refl
sizes (e ∷ es) = ap (λ n. size (element_tree e) + n) (sizes es) ∙ sym (sum_by-cons (λ x. size (element_tree x)) e es)

-- one child is taken out of a list
pub taken_out : (es : List GreenElement) (i : ℕ) (e : GreenElement) → i < length es → forest_size (forest (element_trees (swap_remove es i e))) + size (element_tree (get_or es i e)) ≡ forest_size (forest (element_trees es))
taken_out es i e h = omega (arith, sizes es, sizes (swap_remove es i e), sum_by-swap_remove (λ e. size (element_tree e)) es i e h)

-- a part of a list
pub size_of_part : (n m : ℕ) (es : List GreenElement) → forest_size (forest (element_trees (take m (drop n es)))) ≤ forest_size (forest (element_trees es))
size_of_part n m es =
    let f : GreenElement → ℕ = λ e. size (element_tree e) in
    omega (arith, sizes es, sizes (take m (drop n es)), sum_by-take-le f (drop n es) m, sum_by-take-drop f es n)
