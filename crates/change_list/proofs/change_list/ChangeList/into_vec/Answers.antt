use Rattle.std.proofs.Common.{rules}
use Rattle.change_list.proofs.change_list.ChangeList.into_vec.Goals as goal

pub returns : goal.returns
returns c = search rules
