-- Elements by where their texts stand, in bytes from the tree's start.
--     end_of                        Where the element's text ends, in bytes from the start of the whole tree's text.
--     tokens_touching               The tokens at or below an element that touch an offset, counted from the start of the whole tree.
--     first_two, token_at           Of a list of tokens: none, the only one, or the first two; that of the tokens which touch an offset.
--     covering_of                   Of the elements at or below one, the last in document order whose text contains a range of the whole
--                                   tree.
--
-- At most two tokens touch one offset, since they have text and follow one another; no law states this.
--
-- `L/4` ends at byte 5. Below `L` byte 4 is between the tokens `L/3` and `L/4/0`. Below `L/4` it touches `L/4/0` alone,
-- and byte 3 touches none. Bytes 4 to 5 are covered last by `L/4/0`, both below `L` and below `L/4`. Bytes 3 to 5 are
-- covered by `L`, and below `L/4` by nothing.
use Rattle.std.specs.Prelude.{ℕ, ◌+◌, List, [], ◌∷◌, map, filter, Option}
use Rattle.green_tree.specs.Path.{last_item}
use Rattle.green_tree.specs.Tree.{text_length}
use Rattle.green_tree.specs.Order.{token_paths, start}
use Rattle.green_tree.specs.Offsets.{touches, covers}
use Rattle.cst_core.specs.Element.{Element, subtree, below}
use Rattle.cst_core.specs.SyntaxElement.{element_of}
use Rattle.cst_core.specs.Navigation.{elements_of}
use Rattle.cst_core.specs.declared.element.SyntaxElement.{SyntaxElement}
use Rattle.cst_core.specs.declared.offsets.TokenAtOffset.{TokenAtOffset}
use Rattle.cst_core.specs.declared.offsets.TokenAtOffset.TheVariants.{None, Single, Between}

abbrev pub end_of : Element → ℕ
end_of e = start e.root e.path + text_length (subtree e)

abbrev pub tokens_touching : Element → ℕ → List Element
tokens_touching e offset = filter (λ token. touches token.root offset token.path) (map (below e) (token_paths (subtree e)))

abbrev pub first_two : List Element → TokenAtOffset
first_two [] = None
first_two (token ∷ []) = Single token
first_two (left ∷ right ∷ others) = Between left right

abbrev pub token_at : Element → ℕ → TokenAtOffset
token_at e offset = first_two (tokens_touching e offset)

abbrev pub covering_of : Element → ℕ → ℕ → Option SyntaxElement
covering_of e from to = last_item (filter (λ x. covers (element_of x).root from to (element_of x).path) (elements_of e))
