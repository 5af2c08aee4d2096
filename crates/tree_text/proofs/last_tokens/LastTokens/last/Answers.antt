use Rattle.std.proofs.Common.{rules}
use Rattle.tree_text.proofs.last_tokens.LastTokens.last.Goals as goal

pub returns-in-Some-Some : goal.returns-in-Some-Some
returns-in-Some-Some c = search rules
