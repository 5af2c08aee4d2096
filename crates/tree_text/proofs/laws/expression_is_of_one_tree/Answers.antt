use Rattle.tree_text.specs.Grammar.{is_gap_blank}
use Rattle.tree_text.specs.KindNames.{name_in}
use Rattle.tree_text.specs.declared.gaps.Gaps.TheVariants.{Lines}
use Rattle.tree_text.proofs.EncodedBytes.{are-gaps}
use Rattle.tree_text.proofs.OneTree.{one-tree}
use Rattle.tree_text.proofs.laws.expression_is_of_one_tree.Goals as goal

pub returns : goal.returns
returns c = λ t u w it other. one-tree (name_in c.args.names.now) is_gap_blank c.are_names.ensures (are-gaps Lines) t u w it other
