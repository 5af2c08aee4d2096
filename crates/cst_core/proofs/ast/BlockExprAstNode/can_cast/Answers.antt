use Rattle.std.proofs.Common.{rules}
use Rattle.cst_core.proofs.ast.BlockExprAstNode.can_cast.Goals as goal

pub returns : goal.returns
returns c = search rules
