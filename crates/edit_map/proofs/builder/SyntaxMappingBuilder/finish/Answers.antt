use Rattle.edit_map.proofs.builder.SyntaxMappingBuilder.finish.Goals as goal

pub returns-clause-ok : goal.returns-clause-ok
returns-clause-ok c = c.add_mapping.ensures.ok

pub returns-clause-err : goal.returns-clause-err
returns-clause-err c = c.add_mapping.ensures.err

pub returns-clause-is_mapping : goal.returns-clause-is_mapping
returns-clause-is_mapping c = c.add_mapping.ensures.is_mapping
