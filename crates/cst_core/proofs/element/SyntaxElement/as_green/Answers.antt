use Rattle.std.proofs.Common.{rules}
use Rattle.cst_core.proofs.element.SyntaxElement.as_green.Goals as goal

pub returns-in-Node-clause-tree : goal.returns-in-Node-clause-tree
returns-in-Node-clause-tree c = search rules

pub returns-in-Node-clause-there : goal.returns-in-Node-clause-there
returns-in-Node-clause-there c = search rules

pub returns-in-Token-clause-tree : goal.returns-in-Token-clause-tree
returns-in-Token-clause-tree c = search rules

pub returns-in-Token-clause-there : goal.returns-in-Token-clause-there
returns-in-Token-clause-there c = search rules
