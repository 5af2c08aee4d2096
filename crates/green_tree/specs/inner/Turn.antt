-- The way to the token beside an element, where it leaves the way to the element.
--     LeadsInto                     a path goes on in the child in a slot, as a function of the child's tree says; and it is there
--     way_through                   the path that follows another one as far as a turn, and then goes on in the turn's child
--     IsTurn                        a turn off a path of the tree, into a child that the tree has there, where the function gives a path
use Rattle.std.specs.Prelude.{◌≡◌, ℕ, ◌≤◌, ◌∷◌, ◌++◌, length, take, slice_get, Option, Some, option_map, IsSome}
use Rattle.green_tree.specs.Path.{Path}
use Rattle.green_tree.specs.Tree.{SyntaxTree, at, children}
use Rattle.green_tree.specs.GreenElementRef.{ref_tree}
use Rattle.green_tree.specs.declared.tokens.Turn.{Turn}

pub record LeadsInto (path_in : SyntaxTree → Option Path) (t : SyntaxTree) (whole : Option Path) (slot : ℕ) : Type 0 where
  pub child : SyntaxTree
  pub there : slice_get (children t) slot ≡ Some child
  pub some : IsSome (path_in child)
  pub way : whole ≡ option_map (λ p. slot ∷ p) (path_in child)

abbrev pub way_through : (SyntaxTree → Option Path) → Path → Turn → Option Path
way_through path_in path turn = option_map (λ p. take turn.depth path ++ turn.slot ∷ p) (path_in (ref_tree turn.child))

pub record IsTurn (path_in : SyntaxTree → Option Path) (t : SyntaxTree) (path : Path) (turn : Turn) : Type 0 where
  pub within : turn.depth ≤ length path
  pub below : (p : Path) → at t (take turn.depth path ++ turn.slot ∷ p) ≡ at (ref_tree turn.child) p
  pub some : IsSome (path_in (ref_tree turn.child))
