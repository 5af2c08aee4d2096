use Rattle.std.proofs.Common.{rules}
use Rattle.cst_core.proofs.token.SyntaxTokenHash.hash.Goals as goal

pub returns : goal.returns
returns g c = search rules
