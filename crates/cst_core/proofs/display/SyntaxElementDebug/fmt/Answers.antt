use Rattle.std.proofs.Common.{rules}
use Rattle.cst_core.proofs.display.SyntaxElementDebug.fmt.Goals as goal

pub returns-in-Node : goal.returns-in-Node
returns-in-Node g c = search rules

pub returns-in-Token : goal.returns-in-Token
returns-in-Token g c = search rules
