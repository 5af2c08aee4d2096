use Rattle.std.proofs.Common.{sym}
use Rattle.edit_change.proofs.RootTargets.{no-root-in}
use Rattle.edit_change.proofs.change.Change.replaces_root.Goals as goal

pub returns-in-ReplaceAll : goal.returns-in-ReplaceAll
returns-in-ReplaceAll c = sym (no-root-in c.in-ReplaceAll.is)
