-- Element values by their form.
--     element_of, node_of, token_of  The value in a `SyntaxElement`; only if it is a node; only if it is a token.
--     syntax_as, syntax_of          A value as a `SyntaxElement`: a node or a token, as a given tree is; as the value's subtree is.
--     syntax_at                     The value of the same tree at a path, as a `SyntaxElement`, if the path leads to an element.
--     child_elements, child_nodes   The children in order; those of them that are nodes.
--     next_sibling, previous_sibling  The sibling one slot after the element, if there is one; one slot before it.
--     descendants_of, descendants_of_kind  The nodes at or below an element, in document order; those of them that are of one kind.
--     first_token_of, last_token_of  The first token at or below an element, if there is one; the last one.
--     token_before, token_after     The last token before an element in its tree; the first one after it, as `tokens_after` says.
--
-- In code, `==` on element values is `same_element`, and equal values have equal hashes.
--
-- The child nodes of `L` are `L/1` and `L/4`; its descendants are `L`, `L/1` and `L/4`, and those of the kind LITERAL
-- are `L/1` and `L/4`. The token before `L/4/0` is `L/3`. In `(ARG_LIST L_PAREN"(" (ATTR) R_PAREN")")` the token before
-- `)` is `(`, and the token after `(` is `)`: a node without tokens is passed over.
use Rattle.std.specs.Prelude.{List, [], ◌∷◌, ◌==◌, length, map, filter, filter_map, Option, Some, None, option_map, option_and_then}
use Rattle.green_tree.specs.Path.{Path, next_path, previous_path, counted_from, first_item, last_item}
use Rattle.green_tree.specs.Tree as tree
use Rattle.green_tree.specs.Tree.{SyntaxTree, at, children, label}
use Rattle.green_tree.specs.Order.{node_paths, token_paths, tokens_before, tokens_after}
use Rattle.green_tree.specs.declared.kind.SyntaxKind.{SyntaxKind}
use Rattle.cst_core.specs.Element.{Element, subtree, element_at, below}
use Rattle.cst_core.specs.declared.element.SyntaxElement.{SyntaxElement}
use Rattle.cst_core.specs.declared.element.SyntaxElement.TheVariants.{Node, Token}

abbrev pub element_of : SyntaxElement → Element
element_of (Node e) = e
element_of (Token e) = e

abbrev pub node_of : SyntaxElement → Option Element
node_of (Node e) = Some e
node_of (Token e) = None

abbrev pub token_of : SyntaxElement → Option Element
token_of (Node e) = None
token_of (Token e) = Some e

abbrev pub syntax_as : SyntaxTree → Element → SyntaxElement
syntax_as (tree.Token k s) e = Token e
syntax_as (tree.Node k f) e = Node e

abbrev pub syntax_of : Element → SyntaxElement
syntax_of e = syntax_as (subtree e) e

abbrev pub syntax_at : Element → Path → Option SyntaxElement
syntax_at e p = option_map (λ t. syntax_as t (element_at e p)) (at e.root p)

abbrev pub child_elements : Element → List SyntaxElement
child_elements e = map (λ i. syntax_of (below e (i ∷ []))) (counted_from 0 (length (children (subtree e))))

abbrev pub child_nodes : Element → List Element
child_nodes e = filter_map node_of (child_elements e)

abbrev pub next_sibling : Element → Option SyntaxElement
next_sibling e = option_and_then (syntax_at e) (next_path e.path)

abbrev pub previous_sibling : Element → Option SyntaxElement
previous_sibling e = option_and_then (syntax_at e) (previous_path e.path)

abbrev pub descendants_of : Element → List Element
descendants_of e = map (below e) (node_paths (subtree e))

abbrev pub descendants_of_kind : SyntaxKind → Element → List Element
descendants_of_kind kind e = filter (λ n. label (subtree n) == kind.0) (descendants_of e)

abbrev pub first_token_of : Element → Option Element
first_token_of e = option_map (below e) (first_item (token_paths (subtree e)))

abbrev pub last_token_of : Element → Option Element
last_token_of e = option_map (below e) (last_item (token_paths (subtree e)))

abbrev pub token_before : Element → Option Element
token_before e = option_map (element_at e) (last_item (tokens_before e.root e.path))

abbrev pub token_after : Element → Option Element
token_after e = option_map (element_at e) (first_item (tokens_after e.root e.path))
