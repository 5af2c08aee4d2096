-- Children whose texts touch an offset, as a walk has them left to visit.
--     IsTouched                     its text is not empty, and the offset is within it or at one of its ends
--     depth_of                      how many slots lead to its node
--     reached_in                    the tokens at and below them that touch the offset, off a path to the deepest of their nodes
--     touched_size                  how many elements are at and below such a child
--     PushesTouched                 after those that were there, such children of a tree that stands so deep, with all of its tokens that touch the offset
use Rattle.std.specs.Prelude.{◌≡◌, ℕ, ◌<◌, ◌≤◌, List, [], ◌∷◌, ◌++◌, take, length, Option, sum_by}
use Rattle.green_tree.specs.Path.{Path}
use Rattle.green_tree.specs.Tree.{SyntaxTree, text_length}
use Rattle.green_tree.specs.Green.{length_limit}
use Rattle.green_tree.specs.GreenElement.{element_tree}
use Rattle.green_tree.specs.inner.FoundToken.{reached_below}
use Rattle.green_tree.specs.inner.TokensByOffset.{tokens_touching}
use Rattle.green_tree.specs.inner.Stacked.{AreStacked}
use Rattle.green_tree.specs.inner.TreeSize.{size}
use Rattle.green_tree.specs.declared.offsets.Touched.{Touched}

pub record IsTouched (child : Touched) : Type 0 where
  pub some : 0 < text_length (element_tree child.element.now)
  pub within : child.offset ≤ text_length (element_tree child.element.now)
  pub fits : text_length (element_tree child.element.now) < length_limit

abbrev pub depth_of : Touched → ℕ
depth_of child = child.depth

abbrev pub reached_in : Path → List Touched → List (Path × Option SyntaxTree)
reached_in path [] = []
reached_in path (child ∷ rest) = reached_below (take child.depth path ++ child.slot ∷ []) (element_tree child.element.now) (tokens_touching (element_tree child.element.now) child.offset) ++ reached_in path rest

abbrev pub touched_size : Touched → ℕ
touched_size child = size (element_tree child.element.now)

pub record PushesTouched (t : SyntaxTree) (offset depth : ℕ) (old new : List Touched) : Type 0 where
  pub more : List Touched
  pub added : new ≡ old ++ more
  pub stacked : AreStacked depth_of IsTouched depth depth more
  pub reached : (path : Path) → length path ≡ depth → reached_in path more ≡ reached_below path t (tokens_touching t offset)
  pub smaller : sum_by touched_size more < size t
