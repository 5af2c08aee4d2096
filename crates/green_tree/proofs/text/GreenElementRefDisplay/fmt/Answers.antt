use Rattle.std.proofs.Common.{rules}
use Rattle.green_tree.proofs.text.GreenElementRefDisplay.fmt.Goals as goal

pub returns-in-Node-clause-writes : goal.returns-in-Node-clause-writes
returns-in-Node-clause-writes g c = search rules

pub returns-in-Node-clause-styled : goal.returns-in-Node-clause-styled
returns-in-Node-clause-styled g c = search rules

pub returns-in-Token-clause-writes : goal.returns-in-Token-clause-writes
returns-in-Token-clause-writes g c = search rules

pub returns-in-Token-clause-styled : goal.returns-in-Token-clause-styled
returns-in-Token-clause-styled g c = search rules
