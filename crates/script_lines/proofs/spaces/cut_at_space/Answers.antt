use Rattle.std.proofs.Common.{refl}
use Rattle.script_lines.proofs.AroundWords.{cut-parts}
use Rattle.script_lines.proofs.spaces.cut_at_space.Goals as goal

pub returns : goal.returns
returns c = cut-parts c.args.text.now c.split_once.result _ c.unwrap_or.result c.split_once.ensures.cases refl refl c.unwrap_or.ensures
