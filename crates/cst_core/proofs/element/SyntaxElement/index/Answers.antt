use Rattle.std.proofs.Common.{rules}
use Rattle.cst_core.proofs.element.SyntaxElement.index.Goals as goal

pub returns : goal.returns
returns c = search rules
