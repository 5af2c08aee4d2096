use Rattle.std.proofs.Common.{rules}
use Rattle.script_lines.proofs.detail.Detail.from_name.Goals as goal

pub returns-in-edits-clause-some : goal.returns-in-edits-clause-some
returns-in-edits-clause-some c = search rules
