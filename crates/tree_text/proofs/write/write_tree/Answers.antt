use Rattle.std.proofs.Common.{subst}
use Rattle.cst_core.specs.Green.{branch_tree}
use Rattle.tree_text.specs.TreeText.{NamesUnnamed, unnamed_in}
use Rattle.tree_text.proofs.write.write_tree.Goals as goal

pub returns-clause-no_name : goal.returns-clause-no_name
returns-clause-no_name c =
    subst (λ given. NamesUnnamed c.write_tree_with.result (unnamed_in given (branch_tree c.args.tree.now))) c.new.ensures c.write_tree_with.ensures.no_name
