use Rattle.edit_change.proofs.RewrittenAlike.{plain-untouched}
use Rattle.edit_plan.proofs.laws.untouched_stays.Goals as goal

pub returns : goal.returns
returns c from change given cs p t untouched = plain-untouched from change given cs p untouched t
