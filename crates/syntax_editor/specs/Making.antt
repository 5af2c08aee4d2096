-- Nodes made of elements.
--     trees_of, node_tree           The trees of some elements, in order; a node of a kind with these as its children.
use Rattle.std.specs.Prelude.{List, map}
use Rattle.cst_core.specs.Tree.{SyntaxTree, node}
use Rattle.cst_core.specs.Element.{subtree}
use Rattle.cst_core.specs.SyntaxElement.{element_of}
use Rattle.cst_core.specs.SyntaxKind.{SyntaxKind}
use Rattle.cst_core.specs.declared.element.SyntaxElement.{SyntaxElement}

abbrev pub trees_of : List SyntaxElement → List SyntaxTree
trees_of es = map (λ e. subtree (element_of e)) es

abbrev pub node_tree : SyntaxKind → List SyntaxElement → SyntaxTree
node_tree kind es = node kind.0 (trees_of es)
