use Rattle.std.proofs.Common.{rules}
use Rattle.cst_core.proofs.token.SyntaxToken.parent.Goals as goal

pub returns-clause-parent : goal.returns-clause-parent
returns-clause-parent c = search rules

pub returns-clause-some : goal.returns-clause-some
returns-clause-some c = search rules
