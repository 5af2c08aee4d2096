use Rattle.std.proofs.Common.{rules}
use Rattle.cst_core.proofs.token.SyntaxTokenPartialEq.eq.Goals as goal

pub returns : goal.returns
returns c = search rules
