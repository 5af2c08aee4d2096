use Rattle.std.proofs.Common.{rules}
use Rattle.syntax_editor.proofs.fresh_node.fresh_node.Goals as goal

pub returns-then-is_spent-clause-too_long : goal.returns-then-is_spent-clause-too_long
returns-then-is_spent-clause-too_long c = search rules

pub returns-then-is_spent-clause-no_number : goal.returns-then-is_spent-clause-no_number
returns-then-is_spent-clause-no_number c = search rules

pub returns-in_err-root-clause-too_long : goal.returns-in_err-root-clause-too_long
returns-in_err-root-clause-too_long c = search rules
