use Rattle.std.proofs.Common.{rules}
use Rattle.cst_core.proofs.node.SyntaxNode.try_clone.Goals as goal

pub returns : goal.returns
returns c = search rules
