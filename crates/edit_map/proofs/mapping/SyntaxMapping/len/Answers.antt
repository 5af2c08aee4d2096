use Rattle.std.proofs.Common.{rules}
use Rattle.edit_map.proofs.mapping.SyntaxMapping.len.Goals as goal

pub returns-clause-count : goal.returns-clause-count
returns-clause-count c = search rules

pub returns-clause-is_mapping : goal.returns-clause-is_mapping
returns-clause-is_mapping c = search rules
