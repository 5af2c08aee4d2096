use Rattle.std.proofs.Common.{refl, sym, ◌∙◌}
use Rattle.edit_steps.proofs.FirstStages.{begun}
use Rattle.edit_steps.proofs.stages.Stages.new.Goals as goal

pub payload_stages-requires : goal.payload_stages-requires
payload_stages-requires c = c.requires.fates

pub new-requires-2-clause-fit : goal.new-requires-2-clause-fit
new-requires-2-clause-fit c = c.requires.fit

pub new-requires-2-clause-apart : goal.new-requires-2-clause-apart
new-requires-2-clause-apart c = c.requires.apart

pub new-requires-2-clause-fates : goal.new-requires-2-clause-fates
new-requires-2-clause-fates c = c.requires.fates

pub returns-clause-stages : goal.returns-clause-stages
returns-clause-stages c =
    begun c.args.changes.now _ _ c.requires.apart c.in_ok-new-2.ensures.waiting (_, _, sym c.in_ok-green.ensures) (c.in_ok-new.ensures.old ∙ c.in_ok-green.ensures) c.in_ok-new.ensures.stage c.in_ok-payload_stages.ensures refl

pub returns-clause-none_done : goal.returns-clause-none_done
returns-clause-none_done c = c.in_ok-new-2.ensures.none

pub returns-clause-none_built : goal.returns-clause-none_built
returns-clause-none_built c = refl
