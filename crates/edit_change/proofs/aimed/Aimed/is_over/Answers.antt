use Rattle.edit_change.proofs.Shared.{over-some}
use Rattle.edit_change.proofs.aimed.Aimed.is_over.Goals as goal

pub returns-in-Over : goal.returns-in-Over
returns-in-Over c = rw c.in-Over.is (over-some c.args.self.now.path.now c.in-Over.count)
