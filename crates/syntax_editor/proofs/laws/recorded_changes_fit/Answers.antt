use Rattle.syntax_editor.proofs.Fitting.{recorded_fits}
use Rattle.syntax_editor.proofs.laws.recorded_changes_fit.Goals as goal

pub returns : goal.returns
returns c root = recorded_fits root
