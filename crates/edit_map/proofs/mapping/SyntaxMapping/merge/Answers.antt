use Rattle.std.proofs.Common.{reverse}
use Rattle.edit_map.proofs.Making.{ok-ahead}
use Rattle.edit_map.proofs.mapping.SyntaxMapping.merge.Goals as goal

pub returns-clause-ok : goal.returns-clause-ok
returns-clause-ok c =
    ok-ahead c.args.other (reverse c.into_pairs.result.items) c.args.self.now c.take_in.new.self c.into_pairs.ensures.0 c.take_in.result c.take_in.ensures.ok
