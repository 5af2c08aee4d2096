use Rattle.std.proofs.Common.{rules}
use Rattle.path_table.proofs.table.PathTable.insert.Goals as goal

pub set-requires-clause-entered : goal.set-requires-clause-entered
set-requires-clause-entered g c = (c.args.path.now, c.in_ok-cell.ensures.entered)

pub returns-clause-ok : goal.returns-clause-ok
returns-clause-ok g c = search rules

pub returns-clause-err : goal.returns-clause-err
returns-clause-err g c = search rules

pub returns-clause-tree : goal.returns-clause-tree
returns-clause-tree g c = search rules
