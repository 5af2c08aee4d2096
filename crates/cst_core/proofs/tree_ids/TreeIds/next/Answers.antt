use Rattle.std.proofs.Common.{rules}
use Rattle.cst_core.proofs.tree_ids.TreeIds.next.Goals as goal

pub returns-clause-spent : goal.returns-clause-spent
returns-clause-spent c = search rules

pub returns-clause-number : goal.returns-clause-number
returns-clause-number c = search rules

pub returns-clause-given : goal.returns-clause-given
returns-clause-given c = search rules

pub returns-clause-for_good : goal.returns-clause-for_good
returns-clause-for_good c = search rules
