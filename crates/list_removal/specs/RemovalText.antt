-- What a removal leaves of a text.
--     end_of                        Where the element at a path ends, in bytes from the start of the tree's text.
--     text_without                  A tree's text up to the start of one element, and then what follows the end of another.
--
-- The removal of `R/1` with COMMA cuts the bytes 1 to 3 of `(1, 2)`, counted from 0, both included.
use Rattle.std.specs.Prelude.{ℕ, ◌+◌, List, ◌++◌, take, drop}
use Rattle.std.specs.Option.{option_map_or}
use Rattle.cst_core.specs.Path.{Path}
use Rattle.cst_core.specs.Tree.{SyntaxTree, at, text, text_length}
use Rattle.cst_core.specs.Order.{start}
use Rattle.cst_core.specs.SyntaxElement.{element_of}
use Rattle.cst_core.specs.declared.element.SyntaxElement.{SyntaxElement}

abbrev pub end_of : SyntaxTree → Path → ℕ
end_of t p = start t p + option_map_or text_length (at t p) 0

abbrev pub text_without : SyntaxTree → SyntaxElement → SyntaxElement → List ℕ
text_without t first last = take (start t (element_of first).path) (text t) ++ drop (end_of t (element_of last).path) (text t)
