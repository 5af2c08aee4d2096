use Rattle.std.proofs.Common.{ap}
use Rattle.edit_steps.specs.inner.Followers.{owner_link, gap_link, token_link}
use Rattle.edit_steps.proofs.Readiness.{new-counted, waiting-new, none-done-yet}
use Rattle.edit_steps.proofs.order.waiting.Waiting.new.Goals as goal

pub returns-clause-waiting : goal.returns-clause-waiting
returns-clause-waiting c =
    let cs = c.args.changes.now in
    let linked = c.in_ok-followers.ensures in
    let owners = new-counted (owner_link cs) cs c.in_ok-new.field-0 _ linked.owners (ap (λ v. v.items) c.in_ok-new.ensures.links) c.in_ok-new.ensures.long c.in_ok-new.ensures.counted in
    let gaps = new-counted (gap_link cs) cs c.in_ok-new-2.field-0 _ linked.gaps (ap (λ v. v.items) c.in_ok-new-2.ensures.links) c.in_ok-new-2.ensures.long c.in_ok-new-2.ensures.counted in
    let tokens = new-counted (token_link cs) cs c.in_ok-new-3.field-0 _ linked.tokens (ap (λ v. v.items) c.in_ok-new-3.ensures.links) c.in_ok-new-3.ensures.long c.in_ok-new-3.ensures.counted in
    waiting-new cs c.args.fates.now _ c.requires.fates c.in_ok-standings.ensures c.requires.apart owners gaps tokens

pub returns-clause-none : goal.returns-clause-none
returns-clause-none c = none-done-yet c.args.changes.now c.args.fates.now _ c.requires.fates c.in_ok-standings.ensures
