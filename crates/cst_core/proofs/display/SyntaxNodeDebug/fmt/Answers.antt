use Rattle.std.proofs.Common.{rules}
use Rattle.cst_core.proofs.display.SyntaxNodeDebug.fmt.Goals as goal

pub returns : goal.returns
returns g c = search rules
