use Rattle.std.proofs.Common.{rules}
use Rattle.tree_text.proofs.KeptNames.{kept_none}
use Rattle.tree_text.proofs.kind_names.KindNames.new.Goals as goal

pub invariant_of-result : goal.invariant_of-result
invariant_of-result c = kept_none c.new-2.result c.new.result.items c.new.ensures.items (λ q. search rules)
