use Rattle.std.proofs.Common.{rules}
use Rattle.edit_change.proofs.change.Change.fits.Goals as goal

pub returns-in-Insert : goal.returns-in-Insert
returns-in-Insert c = search rules
