use Rattle.std.proofs.Common.{refl, sym, subst}
use Rattle.tree_text.specs.Grammar.{IsExpression, is_gap_blank}
use Rattle.tree_text.specs.KindNames.{name_in}
use Rattle.tree_text.proofs.WrittenTrees.{is-written}
use Rattle.tree_text.proofs.expression.read_tree_with.Goals as goal

pub returns-clause-written : goal.returns-clause-written
returns-clause-written c = λ t node none is. c.read.ensures.only t (subst (IsExpression (name_in c.args.names.now) is_gap_blank t) (sym is) (is-written c.args.names.now is_gap_blank refl t node none))
