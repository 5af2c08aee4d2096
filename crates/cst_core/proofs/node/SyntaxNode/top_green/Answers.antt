use Rattle.std.proofs.Common.{rules}
use Rattle.cst_core.proofs.node.SyntaxNode.top_green.Goals as goal

pub returns : goal.returns
returns c = search rules
