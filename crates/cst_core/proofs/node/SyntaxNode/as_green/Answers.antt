use Rattle.std.proofs.Common.{rules}
use Rattle.cst_core.proofs.node.SyntaxNode.as_green.Goals as goal

pub returns-clause-tree : goal.returns-clause-tree
returns-clause-tree c = search rules

pub returns-clause-there : goal.returns-clause-there
returns-clause-there c = search rules
