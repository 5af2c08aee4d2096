use Rattle.std.proofs.Common.{refl}
use Rattle.std.proofs.lemmas.List.{map-set}
use Rattle.edit_steps.specs.inner.Waiting.{is_done}
use Rattle.edit_steps.specs.declared.order.waiting.Standing.TheVariants.{Done}
use Rattle.edit_steps.proofs.Readiness.{waiting-done}
use Rattle.edit_steps.proofs.order.waiting.Waiting.done.Goals as goal

pub returns-clause-waiting : goal.returns-clause-waiting
returns-clause-waiting c =
    λ cs done change is at ready. waiting-done cs done c.args.self.now is c.args.number change at _ ready refl (record { links = c.release.ensures.links; long = c.release.ensures.long; counts = c.release.ensures.counts }) (record { links = c.release-2.ensures.links; long = c.release-2.ensures.long; counts = c.release-2.ensures.counts }) (record { links = c.release-3.ensures.links; long = c.release-3.ensures.long; counts = c.release-3.ensures.counts })

pub returns-clause-list : goal.returns-clause-list
returns-clause-list c = map-set is_done c.args.self.now.standings.items c.args.number Done
