use Rattle.std.proofs.Common.{rules}
use Rattle.green_tree.proofs.green.GreenNode.share.Goals as goal

pub returns : goal.returns
returns c = search rules
