use Rattle.edit_map.proofs.Upwards.{parent-of-ok, shorter-parent}
use Rattle.edit_map.proofs.follow.lowest_node.Goals as goal

pub returns-in-Token-clause-some : goal.returns-in-Token-clause-some
returns-in-Token-clause-some c = rw c.in-Token.is (parent-of-ok c.in-Token.token c.parent.result c.parent.ensures.parent)

pub returns-in-Token-clause-short : goal.returns-in-Token-clause-short
returns-in-Token-clause-short c = rw c.in-Token.is (shorter-parent c.in-Token.token c.parent.result c.parent.ensures.parent)
