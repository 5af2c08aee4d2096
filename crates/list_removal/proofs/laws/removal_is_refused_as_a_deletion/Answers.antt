use Rattle.list_removal.proofs.Refused.{refused}
use Rattle.list_removal.proofs.laws.removal_is_refused_as_a_deletion.Goals as goal

pub returns : goal.returns
returns c root separator e tell = refused separator e root tell
