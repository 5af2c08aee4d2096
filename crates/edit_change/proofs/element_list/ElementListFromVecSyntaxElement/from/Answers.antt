use Rattle.std.proofs.Common.{rules}
use Rattle.edit_change.proofs.element_list.ElementListFromVecSyntaxElement.from.Goals as goal

pub returns : goal.returns
returns c = search rules
