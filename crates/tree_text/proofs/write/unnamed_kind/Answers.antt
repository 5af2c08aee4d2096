use Rattle.std.proofs.Common.{rules}
use Rattle.tree_text.proofs.write.unnamed_kind.Goals as goal

pub returns-in-None : goal.returns-in-None
returns-in-None c = search rules
