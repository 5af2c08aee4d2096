use Rattle.std.proofs.Common.{rules}
use Rattle.edit_change.proofs.element_like.element_of_typed.Goals as goal

pub returns : goal.returns
returns g c = search rules
