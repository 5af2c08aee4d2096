-- Nodes that are to be looked at, in the search for the first one that starts somewhere.
--     StartsWithin                  where it begins and ends is within the limit
--     depth_of                      how many slots lead to its parent
--     first_in                      the path of the first node of a kind at or below them that starts at an offset, off a path to the deepest of their parents; the last of them stands first in the text
--     waiting_size                  how many elements are at and below such a node
--     LeavesWaiting                 after those that were there, such nodes below a tree that begins at an offset and stands so deep: where the tree itself is not the first one, they lead to it
use Rattle.std.specs.Prelude.{◌≡◌, ℕ, ◌+◌, ◌<◌, false, List, [], ◌∷◌, ◌++◌, take, length, Option, None, option_map, sum_by}
use Rattle.std.specs.Option.{option_or}
use Rattle.green_tree.specs.Path.{Path}
use Rattle.green_tree.specs.Tree.{SyntaxTree, text_length}
use Rattle.green_tree.specs.Green.{branch_tree, length_limit}
use Rattle.green_tree.specs.inner.FirstNode.{starts_as, first_from}
use Rattle.green_tree.specs.inner.Stacked.{AreStacked}
use Rattle.green_tree.specs.inner.TreeSize.{size}
use Rattle.green_tree.specs.declared.first_node.Waiting.{Waiting}

pub record StartsWithin (entry : Waiting) : Type 0 where
  pub fits : entry.begin + text_length (branch_tree entry.node.now) < length_limit

abbrev pub depth_of : Waiting → ℕ
depth_of entry = entry.depth

abbrev pub first_in : ℕ → ℕ → Path → List Waiting → Option Path
first_in kind offset path [] = None
first_in kind offset path (entry ∷ rest) = option_or (first_in kind offset path rest) (option_map (λ p. take entry.depth path ++ entry.slot ∷ p) (first_from kind entry.begin offset (branch_tree entry.node.now)))

abbrev pub waiting_size : Waiting → ℕ
waiting_size entry = size (branch_tree entry.node.now)

pub record LeavesWaiting (t : SyntaxTree) (begin offset depth : ℕ) (old new : List Waiting) : Type 0 where
  pub more : List Waiting
  pub added : new ≡ old ++ more
  pub stacked : AreStacked depth_of StartsWithin depth depth more
  pub first : (kind : ℕ) (path : Path) → length path ≡ depth → starts_as kind begin offset t [] ≡ false → first_in kind offset path more ≡ option_map (λ p. path ++ p) (first_from kind begin offset t)
  pub smaller : sum_by waiting_size more < size t
