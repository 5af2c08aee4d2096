-- The child in which the last element is whose text contains a range of bytes.
--     IsCoveredIn                   a child whose text contains the range; the last such element of the tree is at it or below
use Rattle.std.specs.Prelude.{◌≡◌, ℕ, ◌+◌, ◌-◌, ◌≤◌, ◌∷◌, slice_get, Some, option_map}
use Rattle.green_tree.specs.Tree.{SyntaxTree, children, text_length}
use Rattle.green_tree.specs.GreenElement.{element_tree}
use Rattle.green_tree.specs.inner.TokensByOffset.{covering}
use Rattle.green_tree.specs.declared.offsets.Child.{Child}

pub record IsCoveredIn (t : SyntaxTree) (from to : ℕ) (child : Child) : Type 0 where
  pub there : slice_get (children t) child.slot ≡ Some (element_tree child.element.now)
  pub begins : child.begin ≤ from
  pub ends : to ≤ child.begin + text_length (element_tree child.element.now)
  pub within : child.begin + text_length (element_tree child.element.now) ≤ text_length t
  pub way : covering t from to ≡ option_map (λ p. child.slot ∷ p) (covering (element_tree child.element.now) (from - child.begin) (to - child.begin))
