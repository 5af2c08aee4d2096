use Rattle.cst_core.proofs.Sizes.{child-smaller, child_node-smaller}
use Rattle.cst_core.proofs.laws.children_are_smaller.Goals as goal

pub returns-clause-elements : goal.returns-clause-elements
returns-clause-elements c = child-smaller

pub returns-clause-nodes : goal.returns-clause-nodes
returns-clause-nodes c = child_node-smaller
