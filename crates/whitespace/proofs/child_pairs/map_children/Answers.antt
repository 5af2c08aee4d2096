use Rattle.std.proofs.Common.{rules}
use Rattle.whitespace.proofs.child_pairs.map_children.Goals as goal

pub returns-clause-ok : goal.returns-clause-ok
returns-clause-ok c = search rules

pub returns-clause-accepted : goal.returns-clause-accepted
returns-clause-accepted c = search rules

pub returns-clause-refused : goal.returns-clause-refused
returns-clause-refused c = search rules

pub returns-clause-unchanged : goal.returns-clause-unchanged
returns-clause-unchanged c = search rules
