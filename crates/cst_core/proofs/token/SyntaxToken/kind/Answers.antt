use Rattle.std.proofs.Common.{rules}
use Rattle.cst_core.proofs.token.SyntaxToken.kind.Goals as goal

pub returns-clause-kind : goal.returns-clause-kind
returns-clause-kind c = search rules

pub returns-clause-form : goal.returns-clause-form
returns-clause-form c = search rules

pub returns-clause-top : goal.returns-clause-top
returns-clause-top c = search rules
