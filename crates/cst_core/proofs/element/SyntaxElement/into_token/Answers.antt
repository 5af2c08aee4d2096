use Rattle.std.proofs.Common.{rules}
use Rattle.cst_core.proofs.element.SyntaxElement.into_token.Goals as goal

pub returns-in-Node : goal.returns-in-Node
returns-in-Node c = search rules

pub returns : goal.returns
returns c = search rules
