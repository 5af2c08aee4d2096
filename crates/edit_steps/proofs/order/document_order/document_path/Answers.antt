use Rattle.std.proofs.Common.{rules}
use Rattle.edit_steps.proofs.order.document_order.document_path.Goals as goal

pub returns-in-Insert : goal.returns-in-Insert
returns-in-Insert c = search rules

pub returns-in-InsertAll : goal.returns-in-InsertAll
returns-in-InsertAll c = search rules

pub returns-in-Replace : goal.returns-in-Replace
returns-in-Replace c = search rules

pub returns-in-ReplaceWithMany : goal.returns-in-ReplaceWithMany
returns-in-ReplaceWithMany c = search rules

pub returns-in-ReplaceAll : goal.returns-in-ReplaceAll
returns-in-ReplaceAll c = search rules
