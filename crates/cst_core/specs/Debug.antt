-- What `{:?}` writes of element values.
--     node_debug, token_debug       The kind, `@`, the start, `..` and the end; for a token also its text in quotes. The second is defined
--                                   only for texts in ASCII.
--     element_debug                 `Node(..)` or `Token(..)` around that of the node or token.
--
-- They speak of `{:?}` alone. `{:#?}` also writes what is below the element, a line each.
use Rattle.std.specs.Prelude.{ℕ, List, ◌++◌, Option, Some, codes, decimal}
use Rattle.std.specs.Fmt.{◌++?◌, debug_str}
use Rattle.green_tree.specs.Tree.{label, text}
use Rattle.green_tree.specs.Order.{start}
use Rattle.green_tree.specs.Kind.{kind_text}
use Rattle.cst_core.specs.Element.{Element, subtree}
use Rattle.cst_core.specs.AtOffset.{end_of}
use Rattle.cst_core.specs.declared.element.SyntaxElement.{SyntaxElement}
use Rattle.cst_core.specs.declared.element.SyntaxElement.TheVariants.{Node, Token}

abbrev pub node_debug : Element → List ℕ
node_debug e = kind_text (label (subtree e)) ++ codes "@" ++ decimal (start e.root e.path) ++ codes ".." ++ decimal (end_of e)

abbrev pub token_debug : Element → Option (List ℕ)
token_debug e =
    Some (kind_text (label (subtree e))) ++? Some (codes "@") ++? Some (decimal (start e.root e.path)) ++? Some (codes "..")
    ++? Some (decimal (end_of e)) ++? Some (codes " ") ++? debug_str (text (subtree e))

abbrev pub element_debug : SyntaxElement → Option (List ℕ)
element_debug (Node n) = Some (codes "Node(") ++? Some (node_debug n) ++? Some (codes ")")
element_debug (Token t) = Some (codes "Token(") ++? token_debug t ++? Some (codes ")")
