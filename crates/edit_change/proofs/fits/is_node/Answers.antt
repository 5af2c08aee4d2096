use Rattle.std.proofs.Common.{rules}
use Rattle.edit_change.proofs.fits.is_node.Goals as goal

pub returns-in-Node : goal.returns-in-Node
returns-in-Node c = search rules

pub returns-in-Token : goal.returns-in-Token
returns-in-Token c = search rules
