-- What is true of every element value, and its address in a table.
--     IsInTree                    its path leads to an element, and its tree has a node at the top and a text within the limit
--     IsInTreeAs                  its path leads to this tree, and the same
--     address_path                     an address as the path in a table of trees: the number first, then the slots
use Rattle.std.specs.Prelude.{◌≡◌, ◌<◌, Some, ◌∷◌}
use Rattle.green_tree.specs.Tree.{SyntaxTree, at, text_length}
use Rattle.cst_core.specs.Element.{Element, IsElement, IsNode, root_of, Address}
use Rattle.green_tree.specs.Green.{length_limit}
use Rattle.green_tree.specs.Path.{Path}

pub record IsInTree (e : Element) : Type 0 where
  pub there : IsElement e
  pub top : IsNode (root_of e)
  pub fits : text_length e.root < length_limit

pub record IsInTreeAs (e : Element) (t : SyntaxTree) : Type 0 where
  pub there : at e.root e.path ≡ Some t
  pub top : IsNode (root_of e)
  pub fits : text_length e.root < length_limit

abbrev pub address_path : Address → Path
address_path a = a.number ∷ a.path
