use Rattle.std.proofs.Common.{ap, ap₂, ◌∙◌}
use Rattle.std.specs.Ordering.{is_lt, ordering_then}
use Rattle.edit_change.specs.inner.Aimed.{numbered}
use Rattle.edit_change.proofs.DocumentOrder.{stands-compared}
use Rattle.edit_change.proofs.aimed.Aimed.compare.Goals as goal

pub returns : goal.returns
returns c =
    ap is_lt (c.then.ensures ∙ ap₂ ordering_then c.compare_sites.ensures c.cmp.ensures) ∙ stands-compared (numbered c.args.self.now) (numbered c.args.other.now)
