-- A node's children spliced, in a tree.
--     spliced_list, spliced          a list, and a node, with these in the place of n items from one on
--     updated_at                     a tree where the element at a path is exchanged
--     CanSplice                      a path leads to a node that has these children
--     IsSplicedAt                    a node is another one with these in the place of n children of the node at a path, from one on
use Rattle.std.specs.Prelude.{◌≡◌, ◌≤◌, ◌+◌, ℕ, List, [], ◌∷◌, ◌++◌, take, drop, length, slice_get, Some}
use Rattle.std.specs.Option.{option_map_or}
use Rattle.green_tree.specs.Path.{Path}
use Rattle.green_tree.specs.Tree.{Tree, Forest, Token, Node, SyntaxTree, forest, trees, children, at}
use Rattle.green_tree.specs.Green.{Branch, branch_tree}
use Rattle.green_tree.specs.GreenElement.{element_trees}
use Rattle.green_tree.specs.declared.green.GreenElement.{GreenElement}

abbrev pub spliced_list : {X : Type 0} → ℕ → ℕ → List X → List X → List X
spliced_list first count new ts = take first ts ++ new ++ drop (first + count) ts

abbrev pub spliced : {L : Type 0} → ℕ → ℕ → List (Tree L) → Tree L → Tree L
spliced first count new (Token l s) = Token l s
spliced first count new (Node l f) = Node l (forest (spliced_list first count new (trees f)))

abbrev pub updated_at : {L : Type 0} → Tree L → Path → (Tree L → Tree L) → Tree L
updated_at t [] h = h t
updated_at t (i ∷ p) h = option_map_or (λ c. spliced i 1 (updated_at c p h ∷ []) t) (slice_get (children t) i) t

pub record CanSplice (t : SyntaxTree) (p : Path) (first count : ℕ) : Type 0 where
  pub kind : ℕ
  pub below : Forest ℕ
  pub there : at t p ≡ Some (Node kind below)
  pub within : first + count ≤ length (trees below)

abbrev pub IsSplicedAt : Branch → Path → ℕ → ℕ → List GreenElement → Branch → Type 0
IsSplicedAt b p first count new made = branch_tree made ≡ updated_at (branch_tree b) p (spliced first count (element_trees new))
