use Rattle.std.proofs.Common.{rules}
use Rattle.one_pass.proofs.sought.Registered.compare.Goals as goal

pub returns : goal.returns
returns c = search rules
