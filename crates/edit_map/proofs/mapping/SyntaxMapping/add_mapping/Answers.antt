use Rattle.std.proofs.Common.{rules}
use Rattle.edit_map.proofs.mapping.SyntaxMapping.add_mapping.Goals as goal

pub returns-clause-ok : goal.returns-clause-ok
returns-clause-ok c = search rules

pub returns-clause-err : goal.returns-clause-err
returns-clause-err c = search rules

pub returns-clause-is_mapping : goal.returns-clause-is_mapping
returns-clause-is_mapping c = search rules
