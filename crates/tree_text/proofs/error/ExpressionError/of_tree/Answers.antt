use Rattle.std.proofs.Common.{rules}
use Rattle.tree_text.proofs.error.ExpressionError.of_tree.Goals as goal

pub returns-in-Memory-clause-memory : goal.returns-in-Memory-clause-memory
returns-in-Memory-clause-memory c = search rules

pub returns-in-Memory-clause-other : goal.returns-in-Memory-clause-other
returns-in-Memory-clause-other c = search rules

pub returns-in-TooLong-clause-memory : goal.returns-in-TooLong-clause-memory
returns-in-TooLong-clause-memory c = search rules

pub returns-in-TooLong-clause-other : goal.returns-in-TooLong-clause-other
returns-in-TooLong-clause-other c = search rules

pub returns-in-NoTreeNumber-clause-memory : goal.returns-in-NoTreeNumber-clause-memory
returns-in-NoTreeNumber-clause-memory c = search rules

pub returns-in-NoTreeNumber-clause-other : goal.returns-in-NoTreeNumber-clause-other
returns-in-NoTreeNumber-clause-other c = search rules
