use Rattle.path_table.proofs.PathTables.{empty-tree}
use Rattle.path_table.proofs.table.PathTable.new.Goals as goal

pub returns-clause-tree : goal.returns-clause-tree
returns-clause-tree g c = empty-tree (record { steps = c.new.result; values = c.new-2.result; way = c.new-3.result }) c.new.ensures c.new-2.ensures.items c.new-3.ensures.items
