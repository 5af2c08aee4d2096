use Rattle.std.proofs.Common.{rules}
use Rattle.cst_core.proofs.node.SyntaxNode.kind.Goals as goal

pub returns-clause-kind : goal.returns-clause-kind
returns-clause-kind c = search rules

pub returns-clause-form : goal.returns-clause-form
returns-clause-form c = search rules
