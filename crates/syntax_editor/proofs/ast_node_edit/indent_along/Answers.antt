use Rattle.std.proofs.Common.{rules, sym, subst}
use Rattle.cst_core.specs.Tree.{SameShape}
use Rattle.cst_core.specs.Element.{subtree}
use Rattle.whitespace.proofs.ChildPairs.{with_texts-shape}
use Rattle.syntax_editor.proofs.ast_node_edit.indent_along.Goals as goal

pub map_children-requires : goal.map_children-requires
map_children-requires c = subst (λ e. SameShape (subtree c.args.node.now) (subtree e)) (sym c.in_ok-new.ensures.ok) (with_texts-shape _ (subtree c.args.node.now))

pub returns : goal.returns
returns c = search rules
