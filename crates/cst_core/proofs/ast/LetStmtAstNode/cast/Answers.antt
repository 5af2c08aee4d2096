use Rattle.std.proofs.Common.{rules}
use Rattle.cst_core.proofs.ast.LetStmtAstNode.cast.Goals as goal

pub returns-then-can_cast-clause-castable : goal.returns-then-can_cast-clause-castable
returns-then-can_cast-clause-castable c = search rules

pub returns-then-can_cast-clause-node : goal.returns-then-can_cast-clause-node
returns-then-can_cast-clause-node c = search rules

pub returns-else-can_cast-clause-castable : goal.returns-else-can_cast-clause-castable
returns-else-can_cast-clause-castable c = search rules

pub returns-else-can_cast-clause-node : goal.returns-else-can_cast-clause-node
returns-else-can_cast-clause-node c = search rules
