use Rattle.std.proofs.Common.{rules}
use Rattle.edit_map.proofs.builder.test_pair.Goals as goal

pub returns-then-not-same_shape-clause-err : goal.returns-then-not-same_shape-clause-err
returns-then-not-same_shape-clause-err c = search rules

pub returns-clause-ok : goal.returns-clause-ok
returns-clause-ok c = search rules
