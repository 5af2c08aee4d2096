use Rattle.std.proofs.Common.{rules}
use Rattle.path_table.proofs.table.PathTable.below.Goals as goal

pub returns : goal.returns
returns g c = search rules
