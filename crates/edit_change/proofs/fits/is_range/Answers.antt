use Rattle.std.proofs.Common.{rules}
use Rattle.edit_change.proofs.fits.is_range.Goals as goal

pub returns-then-have_one_path : goal.returns-then-have_one_path
returns-then-have_one_path c = search rules

pub returns-then-not-are_siblings : goal.returns-then-not-are_siblings
returns-then-not-are_siblings c = search rules

pub returns : goal.returns
returns c = search rules
