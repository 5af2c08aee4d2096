use Rattle.std.proofs.Common.{sym, ap, ◌∙◌}
use Rattle.cst_core.specs.Path.{parent_path}
use Rattle.cst_core.proofs.LastSlot.{parent_path-push}
use Rattle.edit_change.proofs.fits.parent.Goals as goal

pub returns-in-Some : goal.returns-in-Some
returns-in-Some c = sym (ap parent_path c.in-Some.ensures.cases.0 ∙ parent_path-push _ _)
