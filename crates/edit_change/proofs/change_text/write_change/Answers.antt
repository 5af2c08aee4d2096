use Rattle.std.proofs.Common.{rules}
use Rattle.edit_change.proofs.change_text.write_change.Goals as goal

pub returns-in-Insert : goal.returns-in-Insert
returns-in-Insert g c = search rules

pub returns-in-InsertAll : goal.returns-in-InsertAll
returns-in-InsertAll g c = search rules

pub returns-in-Replace-default-None : goal.returns-in-Replace-default-None
returns-in-Replace-default-None g c = search rules

pub returns-in-Replace-default-Some : goal.returns-in-Replace-default-Some
returns-in-Replace-default-Some g c = search rules

pub returns-in-ReplaceWithMany : goal.returns-in-ReplaceWithMany
returns-in-ReplaceWithMany g c = search rules

pub returns-in-ReplaceAll : goal.returns-in-ReplaceAll
returns-in-ReplaceAll g c = search rules
