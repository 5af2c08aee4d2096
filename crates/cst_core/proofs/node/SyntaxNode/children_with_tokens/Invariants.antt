use Rattle.std.proofs.Common.{◌≡◌}
use Rattle.cst_core.proofs.Children.{first_children}
use Rattle.cst_core.proofs.node.SyntaxNode.children_with_tokens.Given as goal

abbrev pub invariant-loop-slot : goal.invariant-loop-slot
invariant-loop-slot l = l.all.items ≡ first_children l.self l.slot
