use Rattle.std.proofs.Common.{rules}
use Rattle.tree_text.proofs.reader.Reader.take_kind.Goals as goal

pub returns-in_default-clause-unknown : goal.returns-in_default-clause-unknown
returns-in_default-clause-unknown c = search rules
