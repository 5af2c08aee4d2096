-- A node that is put between other elements, where this is the next tree number.
--     wrapped_tree, wrapper         A node of a kind whose children are the trees of some elements, of a node, and of other elements; it as
--                                   the root of a tree with a number.
--     wrapped_copy                  The copy of the node in it: the child after those first elements.
--     CanWrap, WrapRefuses          The root can be made under the next number, this is greater than the number of the node's tree, and the
--                                   node is of the editor's tree; why not: the first of these that is missing. `Memory` is returned only if
--                                   none is.
--     Wraps                         An editor in which a node is replaced by another one, and whose factory took up pairs of nodes and
--                                   copies.
--
-- With `(` and `)` around it and the kind TUPLE_EXPR, `L/1` is replaced by `(1)`, and the text is `((1), 2)`. Its copy
-- is child 1 of the new node, so a replacement of `L/1/0` by `x`, recorded before or after, gives `((x), 2)`.
use Rattle.std.specs.Prelude.{◌≡◌, ℕ, ◌<◌, ◌≤◌, true, false, List, [], ◌∷◌, ◌++◌, length}
use Rattle.cst_core.specs.Tree.{SyntaxTree, node, text}
use Rattle.cst_core.specs.Green.{IsTooLong}
use Rattle.cst_core.specs.TreeIds.{LacksNumber}
use Rattle.cst_core.specs.Element.{Element, subtree, below}
use Rattle.cst_core.specs.SyntaxKind.{SyntaxKind}
use Rattle.cst_core.specs.declared.element.SyntaxElement.{SyntaxElement}
use Rattle.cst_core.specs.declared.element.SyntaxElement.TheVariants.{Node}
use Rattle.edit_map.specs.Mapping.{Mapping}
use Rattle.edit_plan.specs.Fits.{is_native}
use Rattle.whitespace.specs.IndentCalls.{fresh_root, CanBeRoot}
use Rattle.syntax_editor.specs.declared.wrap_error.WrapError.{WrapError}
use Rattle.syntax_editor.specs.declared.wrap_error.WrapError.TheVariants.{TooLong, NoTreeNumber, NotYounger, Foreign, Memory}
use Rattle.syntax_editor.specs.RecordCall.{Replacing, recorded}
use Rattle.syntax_editor.specs.Editor.{Editor, HasPairs}
use Rattle.syntax_editor.specs.Making.{trees_of}

abbrev pub wrapped_tree : SyntaxKind → List SyntaxElement → Element → List SyntaxElement → SyntaxTree
wrapped_tree kind before n after = node kind.0 (trees_of before ++ subtree n ∷ trees_of after)

abbrev pub wrapper : ℕ → SyntaxKind → List SyntaxElement → Element → List SyntaxElement → Element
wrapper number kind before n after = fresh_root number (wrapped_tree kind before n after)

abbrev pub wrapped_copy : ℕ → SyntaxKind → List SyntaxElement → Element → List SyntaxElement → Element
wrapped_copy number kind before n after = below (wrapper number kind before n after) (length before ∷ [])

-- ---- refusals
pub record CanWrap (root : Element) (number : ℕ) (tree : SyntaxTree) (n : Element) : Type 0 where
  pub can_be_root : CanBeRoot tree number
  pub younger : n.number < number
  pub native : is_native root (Node n) ≡ true

abbrev pub WrapRefuses : Element → ℕ → SyntaxTree → Element → WrapError → Type 0
WrapRefuses root number tree n TooLong = IsTooLong (text tree)
WrapRefuses root number tree n NoTreeNumber = LacksNumber number tree
WrapRefuses root number tree n NotYounger = CanBeRoot tree number × (number ≤ n.number)
WrapRefuses root number tree n Foreign = CanBeRoot tree number × (n.number < number) × (is_native root (Node n) ≡ false)
WrapRefuses root number tree n Memory = CanWrap root number tree n

-- ---- what is recorded and mapped
pub record Wraps (target new : Element) (pairs : Mapping) (before after : Editor) : Type 0 where
  pub others : after ≡ record before { changes = after.changes; factory = after.factory }
  pub changes : after.changes ≡ recorded (Replacing (Node target) (Node new)) before.changes
  pub factory : HasPairs pairs before.factory after.factory
