use Rattle.std.proofs.Common.{rules}
use Rattle.edit_change.proofs.fits.is_one_node.Goals as goal

pub returns-in-Node : goal.returns-in-Node
returns-in-Node c = search rules

pub returns-in-Token : goal.returns-in-Token
returns-in-Token c = search rules

pub returns-in_default : goal.returns-in_default
returns-in_default c = search rules

pub returns-in_default-2 : goal.returns-in_default-2
returns-in_default-2 c = search rules
