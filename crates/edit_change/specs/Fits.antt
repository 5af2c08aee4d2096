-- What a change must meet to be a change of a tree.
--     is_native, is_native_position  An element has the root's tree number, and its path leads to an element of its form in the root's
--                                   tree; a position's anchor is native.
--     is_root                       The element's path is empty.
--     have_one_path, are_siblings   Two elements have the same path; neither is a root, and their parents have the same path.
--     is_range                      Two ends have the same path, or are siblings of which the last is not before the first.
--     is_one_node                   A list is one node, so it may replace a root.
--     fits, Fits                    A change fits a tree: what it aims at is native, a `ReplaceAll` has two different ends that are a
--                                   range, and a root is replaced by one node or not at all; the same as a fact.
use Rattle.std.specs.Prelude.{Bool, true, false, ◌==◌, ◌&&◌, ◌||◌, not, nat_le, List, [], ◌∷◌, Some, None, IsTrue}
use Rattle.std.specs.Option.{option_map_or}
use Rattle.cst_core.specs.Path.{same_path, parent_path, last_slot}
use Rattle.cst_core.specs.Tree.{at, is_token}
use Rattle.cst_core.specs.Element.{Element}
use Rattle.cst_core.specs.SyntaxElement.{element_of}
use Rattle.cst_core.specs.declared.element.SyntaxElement.{SyntaxElement}
use Rattle.cst_core.specs.declared.element.SyntaxElement.TheVariants.{Node, Token}
use Rattle.edit_change.specs.declared.position.Position.{Position}
use Rattle.edit_change.specs.PositionForm.{FirstChild, After}
use Rattle.edit_change.specs.declared.change.Change.{Change}
use Rattle.edit_change.specs.declared.change.Change.TheVariants.{Insert, InsertAll, Replace, ReplaceWithMany, ReplaceAll}

abbrev pub is_native : Element → SyntaxElement → Bool
is_native root (Node n) = (n.number == root.number) && option_map_or (λ t. not (is_token t)) (at root.root n.path) false
is_native root (Token t) = (t.number == root.number) && option_map_or is_token (at root.root t.path) false

abbrev pub is_native_position : Element → Position → Bool
is_native_position root (FirstChild n) = is_native root (Node n)
is_native_position root (After e) = is_native root e

abbrev pub is_root : SyntaxElement → Bool
is_root e = same_path (element_of e).path []

abbrev pub have_one_path : SyntaxElement → SyntaxElement → Bool
have_one_path first last = same_path (element_of first).path (element_of last).path

abbrev pub are_siblings : SyntaxElement → SyntaxElement → Bool
are_siblings first last = not (is_root first) && not (is_root last) && same_path (parent_path (element_of first).path) (parent_path (element_of last).path)

abbrev pub is_range : SyntaxElement → SyntaxElement → Bool
is_range first last = have_one_path first last || (are_siblings first last && nat_le (last_slot (element_of first).path) (last_slot (element_of last).path))

abbrev pub is_one_node : List SyntaxElement → Bool
is_one_node (Node n ∷ []) = true
is_one_node _ = false

abbrev pub fits : Element → Change → Bool
fits root (Insert at e) = is_native_position root at
fits root (InsertAll at es) = is_native_position root at
fits root (Replace t None) = is_native root t && not (is_root t)
fits root (Replace t (Some e)) = is_native root t && (not (is_root t) || is_one_node (e ∷ []))
fits root (ReplaceWithMany t es) = is_native root t && (not (is_root t) || is_one_node es)
fits root (ReplaceAll first last es) = is_native root first && is_native root last && is_range first last && not (have_one_path first last)

abbrev pub Fits : Element → Change → Type 0
Fits root c = IsTrue (fits root c)
