use Rattle.std.proofs.Common.{rules}
use Rattle.cst_core.proofs.tree_ids.TreeIds.new.Goals as goal

pub returns : goal.returns
returns c = search rules
