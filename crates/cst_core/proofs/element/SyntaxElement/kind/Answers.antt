use Rattle.std.proofs.Common.{rules}
use Rattle.cst_core.proofs.element.SyntaxElement.kind.Goals as goal

pub returns-in-Node-clause-kind : goal.returns-in-Node-clause-kind
returns-in-Node-clause-kind c = search rules

pub returns-in-Node-clause-form : goal.returns-in-Node-clause-form
returns-in-Node-clause-form c = search rules

pub returns-in-Token-clause-kind : goal.returns-in-Token-clause-kind
returns-in-Token-clause-kind c = search rules

pub returns-in-Token-clause-form : goal.returns-in-Token-clause-form
returns-in-Token-clause-form c = search rules
