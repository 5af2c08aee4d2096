use Rattle.std.proofs.Common.{rules}
use Rattle.green_tree.proofs.green.GreenElement.kind.Goals as goal

pub returns-in-Node : goal.returns-in-Node
returns-in-Node c = search rules

pub returns-in-Token : goal.returns-in-Token
returns-in-Token c = search rules
