use Rattle.edit_map.proofs.Distinct.{made-reverse}
use Rattle.edit_map.proofs.mapping.SyntaxMapping.into_pairs.Goals as goal

pub returns : goal.returns
returns c = rw (← c.self.view_is) (made-reverse c.self.inside.pairs.items c.self.invariant.mapping.distinct, c.self.invariant.mapping.pairs)
