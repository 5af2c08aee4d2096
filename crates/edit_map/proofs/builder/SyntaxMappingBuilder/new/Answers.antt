use Rattle.std.proofs.Common.{rules}
use Rattle.edit_map.proofs.builder.SyntaxMappingBuilder.new.Goals as goal

pub returns-clause-empty : goal.returns-clause-empty
returns-clause-empty c = search rules

pub returns-clause-pairs : goal.returns-clause-pairs
returns-clause-pairs c = search rules
