use Rattle.std.proofs.Common.{rules}
use Rattle.cst_core.proofs.element.SyntaxElement.text_end.Goals as goal

pub returns-in-Node-clause-end : goal.returns-in-Node-clause-end
returns-in-Node-clause-end c = search rules

pub returns-in-Node-clause-fits : goal.returns-in-Node-clause-fits
returns-in-Node-clause-fits c = search rules

pub returns-in-Token-clause-end : goal.returns-in-Token-clause-end
returns-in-Token-clause-end c = search rules

pub returns-in-Token-clause-fits : goal.returns-in-Token-clause-fits
returns-in-Token-clause-fits c = search rules
