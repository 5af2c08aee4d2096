use Rattle.std.proofs.Common.{rules}
use Rattle.green_tree.proofs.green.GreenNode.capped.Goals as goal

pub returns : goal.returns
returns c = search rules
