use Rattle.std.proofs.Common.{rules}
use Rattle.green_tree.proofs.kind.SyntaxKindDebug.fmt.Goals as goal

pub returns-in-Some : goal.returns-in-Some
returns-in-Some g c = search rules

pub returns-in-None : goal.returns-in-None
returns-in-None g c = search rules
