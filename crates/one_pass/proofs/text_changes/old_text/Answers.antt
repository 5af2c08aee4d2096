use Rattle.std.proofs.Common.{rules}
use Rattle.one_pass.proofs.text_changes.old_text.Goals as goal

pub returns-in-Replace : goal.returns-in-Replace
returns-in-Replace c = search rules
