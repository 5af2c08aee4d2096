use Rattle.std.proofs.Common.{rules}
use Rattle.cst_core.proofs.node.SyntaxNode.new_root.Goals as goal

pub returns-then-is_spent-clause-too_long : goal.returns-then-is_spent-clause-too_long
returns-then-is_spent-clause-too_long c = search rules

pub returns-then-is_spent-clause-no_number : goal.returns-then-is_spent-clause-no_number
returns-then-is_spent-clause-no_number c = search rules

pub returns-in_default-clause-no_number : goal.returns-in_default-clause-no_number
returns-in_default-clause-no_number c = search rules

pub returns-in_default-clause-err : goal.returns-in_default-clause-err
returns-in_default-clause-err c = search rules

pub returns-clause-ok : goal.returns-clause-ok
returns-clause-ok c = search rules

pub returns-clause-drawn : goal.returns-clause-drawn
returns-clause-drawn c = search rules

pub returns-clause-too_long : goal.returns-clause-too_long
returns-clause-too_long c = search rules
