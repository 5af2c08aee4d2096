use Rattle.std.proofs.Common.{rules}
use Rattle.one_pass.proofs.open_nodes.build_node.Goals as goal

pub returns-clause-count : goal.returns-clause-count
returns-clause-count c = search rules

pub returns-clause-tree : goal.returns-clause-tree
returns-clause-tree c = search rules
