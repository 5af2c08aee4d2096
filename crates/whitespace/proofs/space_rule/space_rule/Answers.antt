use Rattle.std.proofs.Common.{rules}
use Rattle.whitespace.proofs.space_rule.space_rule.Goals as goal

pub returns-in-USE-USE : goal.returns-in-USE-USE
returns-in-USE-USE c = search rules
