use Rattle.std.proofs.Common.{rules}
use Rattle.edit_change.proofs.element_like.SyntaxElementElement.syntax_element.Goals as goal

pub returns-clause-element : goal.returns-clause-element
returns-clause-element c = search rules

pub returns-clause-owned : goal.returns-clause-owned
returns-clause-owned c = search rules
