use Rattle.std.proofs.Common.{rules}
use Rattle.cst_core.proofs.tree_ids.TreeIds.peek.Goals as goal

pub returns-then-is_spent-clause-spent : goal.returns-then-is_spent-clause-spent
returns-then-is_spent-clause-spent c = search rules

pub returns-then-is_spent-clause-number : goal.returns-then-is_spent-clause-number
returns-then-is_spent-clause-number c = search rules

pub returns-else-is_spent-clause-spent : goal.returns-else-is_spent-clause-spent
returns-else-is_spent-clause-spent c = search rules

pub returns-else-is_spent-clause-number : goal.returns-else-is_spent-clause-number
returns-else-is_spent-clause-number c = search rules
