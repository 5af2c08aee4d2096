use Rattle.std.proofs.Common.{rules}
use Rattle.cst_core.proofs.element.SyntaxElementHash.hash.Goals as goal

pub returns : goal.returns
returns g c = search rules
