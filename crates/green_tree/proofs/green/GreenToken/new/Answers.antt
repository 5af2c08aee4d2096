use Rattle.std.proofs.Common.{rules}
use Rattle.green_tree.proofs.green.GreenToken.new.Goals as goal

pub returns-clause-too_long : goal.returns-clause-too_long
returns-clause-too_long c = search rules
