use Rattle.std.proofs.Common.{rules}
use Rattle.edit_steps.proofs.order.followers.token_before.Goals as goal

pub returns-in-Some-Token : goal.returns-in-Some-Token
returns-in-Some-Token c = search rules

pub returns-in-Some-Node : goal.returns-in-Some-Node
returns-in-Some-Node c = search rules

pub returns-in-None : goal.returns-in-None
returns-in-None c = search rules
