use Rattle.std.proofs.Common.{◌≡◌, ap, ◌∙◌, subst}
use Rattle.std.specs.Result.{IfOk}
use Rattle.green_tree.specs.Path.{last_item}
use Rattle.cst_core.specs.SyntaxElement.{child_nodes}
use Rattle.cst_core.proofs.ChildSlots.{nodes_up_to-all}
use Rattle.cst_core.proofs.node.SyntaxNode.last_child.Goals as goal

pub returns-clause-ok : goal.returns-clause-ok
returns-clause-ok c =
    let all = nodes_up_to-all c.lent-node.result c.len.result c.len.ensures ∙ ap child_nodes c.lent-node.ensures in
    subst (λ x. IfOk c.last_node_before.result (λ r. r ≡ x)) (ap last_item all) c.last_node_before.ensures.ok

pub returns-clause-none : goal.returns-clause-none
returns-clause-none c nothing =
    let all = nodes_up_to-all c.lent-node.result c.len.result c.len.ensures ∙ ap child_nodes c.lent-node.ensures in
    c.last_node_before.ensures.none (ap last_item all ∙ nothing)
