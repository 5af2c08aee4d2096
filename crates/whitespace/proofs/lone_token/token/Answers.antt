use Rattle.std.proofs.Common.{rules}
use Rattle.whitespace.proofs.lone_token.token.Goals as goal

pub returns-then-text-ge-LENGTH_LIMIT-clause-too_long : goal.returns-then-text-ge-LENGTH_LIMIT-clause-too_long
returns-then-text-ge-LENGTH_LIMIT-clause-too_long c = search rules

pub returns-then-text-ge-LENGTH_LIMIT-clause-no_number : goal.returns-then-text-ge-LENGTH_LIMIT-clause-no_number
returns-then-text-ge-LENGTH_LIMIT-clause-no_number c = search rules
