use Rattle.std.proofs.Common.{rules}
use Rattle.cst_core.proofs.element.SyntaxElement.text_len.Goals as goal

pub returns-in-Node-clause-length : goal.returns-in-Node-clause-length
returns-in-Node-clause-length c = search rules

pub returns-in-Node-clause-fits : goal.returns-in-Node-clause-fits
returns-in-Node-clause-fits c = search rules

pub returns-in-Token-clause-length : goal.returns-in-Token-clause-length
returns-in-Token-clause-length c = search rules

pub returns-in-Token-clause-fits : goal.returns-in-Token-clause-fits
returns-in-Token-clause-fits c = search rules
