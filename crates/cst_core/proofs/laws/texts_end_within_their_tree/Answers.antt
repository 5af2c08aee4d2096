use Rattle.cst_core.proofs.Lengths.{end-within}
use Rattle.cst_core.proofs.laws.texts_end_within_their_tree.Goals as goal

pub returns : goal.returns
returns c = end-within
