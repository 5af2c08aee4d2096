use Rattle.std.proofs.Common.{rules}
use Rattle.syntax_editor.proofs.any_error.ErrorFromEditError.from.Goals as goal

pub returns : goal.returns
returns c = search rules
