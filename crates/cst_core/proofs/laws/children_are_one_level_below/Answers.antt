use Rattle.cst_core.proofs.Levels.{child-level, child_node-level, parent-level}
use Rattle.cst_core.proofs.laws.children_are_one_level_below.Goals as goal

pub returns-clause-elements : goal.returns-clause-elements
returns-clause-elements c = child-level

pub returns-clause-nodes : goal.returns-clause-nodes
returns-clause-nodes c = child_node-level

pub returns-clause-parent : goal.returns-clause-parent
returns-clause-parent c = parent-level
