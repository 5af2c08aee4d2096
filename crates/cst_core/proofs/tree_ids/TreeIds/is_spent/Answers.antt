use Rattle.std.proofs.Common.{rules}
use Rattle.cst_core.proofs.tree_ids.TreeIds.is_spent.Goals as goal

pub returns : goal.returns
returns c = search rules
