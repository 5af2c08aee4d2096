use Rattle.std.proofs.Common.{rules}
use Rattle.edit_change.proofs.element_list.ElementList.into_vec.Goals as goal

pub returns : goal.returns
returns c = search rules
