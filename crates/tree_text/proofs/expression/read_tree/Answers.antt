use Rattle.std.proofs.Common.{rules}
use Rattle.tree_text.proofs.expression.read_tree.Goals as goal

pub returns-clause-found : goal.returns-clause-found
returns-clause-found c = search rules

pub returns-clause-only : goal.returns-clause-only
returns-clause-only c = search rules

pub returns-clause-written : goal.returns-clause-written
returns-clause-written c = search rules

pub returns-clause-refused : goal.returns-clause-refused
returns-clause-refused c = search rules
