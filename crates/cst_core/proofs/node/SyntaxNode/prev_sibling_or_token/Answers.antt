use Rattle.std.proofs.Common.{rules}
use Rattle.cst_core.proofs.node.SyntaxNode.prev_sibling_or_token.Goals as goal

pub returns : goal.returns
returns c = search rules
